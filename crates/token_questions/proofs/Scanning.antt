-- The turns of a reading through a part of the store.
use Rattle.std.proofs.Common.{◌≡◌, ℕ, ◌+◌, ◌^◌, ◌<◌, ◌≤◌, Bool, true, false, ◌⊎◌, List, [], ◌∷◌, ◌++◌, length, get_or, take, drop, Some, None, Ok, Err, Result, sym, refl, ap, ◌∙◌, inl, inr, ⊎_elim, append_assoc, append-nil, arith, length-append, length-drop, length-take}
use Rattle.std.proofs.lemmas.List.{take_more, take_all, get_or-drop, get_or-take}
use Rattle.std.proofs.lemmas.Bool.{both_ways}
use Rattle.measures.specs.Law.{heaviest}
use Rattle.lexer.specs.Reading.{read_from}
use Rattle.lexer.specs.declared.tokens.TokenRow.{TokenRow}
use Rattle.slots.specs.declared.records.Unsound.{Unsound}
use Rattle.stores.specs.Stores.{Contents, summed, ReadsAt}
use Rattle.token_questions.specs.Scans.{reached, Scanned}
use Rattle.token_questions.specs.declared.scan.Goal.{Goal}
use Rattle.token_questions.specs.declared.scan.Stop.{Stop}

-- one byte more, read from a state
abbrev pub AddsByte : TokenRow → ℕ → TokenRow → Type 0
AddsByte v b v' = (q : ℕ) (w : List ℕ) → length w < heaviest → v ≡ read_from q w → v' ≡ read_from q (w ++ (b ∷ []))

module _ {S : Type 0} (contents : S → Contents) where
  -- i bytes have been read, and the goal was not reached at the last of them
  pub record Scanning (s s' : S) (a n i : ℕ) (row v : TokenRow) (goal : Goal) : Type 0 where
    pub value : (q : ℕ) (w bs : List ℕ) → bs ≡ take n (drop a (contents s).bytes) → row ≡ read_from q w → a + n ≤ length (contents s).bytes → length w + n ≤ heaviest → v ≡ read_from q (w ++ take i bs)
    pub no : (i ≡ 0) ⊎ (reached goal i v ≡ false)
    pub counts : (contents s').reads ≡ summed (contents s).reads i
    pub same_bytes : (contents s').bytes ≡ (contents s).bytes
    pub same_capacity : (contents s').capacity ≡ (contents s).capacity

module _ {S : Type 0} {contents : S → Contents} {s : S} {a n : ℕ} {row : TokenRow} {goal : Goal} where
  pub scanning_none : (contents s).reads < 2 ^ 64 → Scanning contents s s a n 0 row row goal
  scanning_none h = record {
    value = λ q w bs here e inside light. e ∙ ap (read_from q) (sym (append-nil w));
    no = inl refl;
    counts = omega arith;
    same_bytes = refl;
    same_capacity = refl;
  }

  module _ {s₁ s₂ : S} {i b : ℕ} {v v' : TokenRow} (lt : i < n) (short : n ≤ 256) (p : Scanning contents s s₁ a n i row v goal)
      (R : ReadsAt contents s₁ (a + i) (Some b) s₂) (add : AddsByte v b v') where
    byte_is : (bs : List ℕ) → bs ≡ take n (drop a (contents s).bytes) → b ≡ get_or bs i 0
    byte_is bs here =
        R.gives.1 ∙ ap (λ (l : List ℕ). get_or l (a + i) 0) p.same_bytes
        ∙ sym (ap (λ (l : List ℕ). get_or l i 0) here ∙ get_or-take n (drop a (contents s).bytes) i 0 lt ∙ get_or-drop a (contents s).bytes i 0)

    long : (bs : List ℕ) → bs ≡ take n (drop a (contents s).bytes) → a + n ≤ length (contents s).bytes → length bs ≡ n
    long bs here inside = ap length here ∙ length-take n (drop a (contents s).bytes) ∙ simp length-drop (omega arith)

    value_more : (q : ℕ) (w bs : List ℕ) → bs ≡ take n (drop a (contents s).bytes) → row ≡ read_from q w → a + n ≤ length (contents s).bytes → length w + n ≤ heaviest → v' ≡ read_from q (w ++ take (i + 1) bs)
    value_more q w bs here e inside light =
        let size : length bs ≡ n = long bs here inside in
        let more : take (i + 1) bs ≡ take i bs ++ (b ∷ []) = take_more bs i 0 (omega arith) ∙ ap (λ (y : ℕ). take i bs ++ (y ∷ [])) (sym (byte_is bs here)) in
        let part : length (w ++ take i bs) < heaviest = omega (arith, length-append w (take i bs), length-take i bs) in
        add q (w ++ take i bs) part (p.value q w bs here e inside light)
        ∙ ap (read_from q) (append_assoc w (take i bs) (b ∷ []) ∙ ap (λ (l : List ℕ). w ++ l) (sym more))

    pub scanning_more : {y : Bool} → y ≡ reached goal (i + 1) v' → y ≡ false → Scanning contents s s₂ a n (i + 1) row v' goal
    scanning_more asked left = record {
      value = value_more;
      no = inr (sym asked ∙ left);
      counts = omega (arith, R.counts, p.counts);
      same_bytes = R.same_bytes ∙ p.same_bytes;
      same_capacity = R.same_capacity ∙ p.same_capacity;
    }

    pub scanning_stops : {y : Bool} → y ≡ reached goal (i + 1) v' → y ≡ true → Scanned contents s s₂ a n row goal (Ok (record { index = i; byte = b; before = v; after = v' }))
    scanning_stops asked taken = record {
      stops = λ q w bs here e inside light yes. (
        _,
        refl,
        record {
          within = omega (arith, long bs here inside);
          byte = byte_is bs here;
          before = p.value q w bs here e inside light;
          after = value_more q w bs here e inside light;
          yes = sym asked ∙ taken;
          no = p.no;
        },
      );
      few = omega (arith, R.counts, p.counts);
      same_bytes = R.same_bytes ∙ p.same_bytes;
      same_capacity = R.same_capacity ∙ p.same_capacity;
    }

  pub scanning_past : {s₁ s₂ : S} {i : ℕ} {v : TokenRow} {r : Result Stop Unsound} → i < n → n ≤ 256 → Scanning contents s s₁ a n i row v goal
      → ReadsAt contents s₁ (a + i) None s₂ → Scanned contents s s₂ a n row goal r
  scanning_past {i = i} lt short p R =
      let past : length (contents s).bytes ≤ a + i = omega (arith, R.gives, ap length p.same_bytes) in record {
        stops = λ q w bs here f inside light yes. absurd (omega arith);
        few = omega (arith, R.counts, p.counts);
        same_bytes = R.same_bytes ∙ p.same_bytes;
        same_capacity = R.same_capacity ∙ p.same_capacity;
      }

  pub scanning_all : {s₁ : S} {i : ℕ} {v : TokenRow} {e : Unsound} → n ≤ i → i ≤ n → 1 ≤ n → n ≤ 256 → Scanning contents s s₁ a n i row v goal
      → Scanned contents s s₁ a n row goal (Err e)
  scanning_all {i = i} {v = v} ge le some short p = record {
    stops = λ q w bs here f inside light yes.
        let same : i ≡ n = omega arith in
        let size : length bs ≡ n = ap length here ∙ length-take n (drop a (contents s).bytes) ∙ simp length-drop (omega arith) in
        let whole : v ≡ read_from q (w ++ bs) = p.value q w bs here f inside light ∙ ap (λ (l : List ℕ). read_from q (w ++ l)) (take_all i bs (omega arith)) in
        let no : reached goal n (read_from q (w ++ bs)) ≡ false =
        ⊎_elim (λ z. absurd (omega arith)) (λ z. ap (λ (k : ℕ). reached goal k (read_from q (w ++ bs))) (sym same) ∙ ap (reached goal i) (sym whole) ∙ z) p.no in
        absurd (both_ways (reached goal n (read_from q (w ++ bs))) no yes);
    few = omega (arith, p.counts);
    same_bytes = p.same_bytes;
    same_capacity = p.same_capacity;
  }
