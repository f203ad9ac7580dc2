-- The turns of a reading through a part of the store.
use Rattle.std.proofs.Common.{◌≡◌, ℕ, ◌+◌, ◌^◌, ◌<◌, ◌≤◌, List, [], ◌∷◌, ◌++◌, length, get_or, take, drop, Some, None, Ok, Result, sym, refl, ap, ◌∙◌, arith, length-drop, length-take}
use Rattle.std.proofs.lemmas.List.{take_more, get_or-drop}
use Rattle.measures.specs.Law.{weights, heaviest, Adds}
use Rattle.slots.specs.declared.records.Unsound.{Unsound}
use Rattle.slots.proofs.Weights.{weights_append}
use Rattle.stores.specs.Stores.{Contents, summed, ReadsAt}
use Rattle.pieces.specs.Rows.{Measured}

pub weights_ones : {X : Type 0} (xs : List X) → weights (λ _. 1) xs ≡ length xs
weights_ones [] = refl
weights_ones (x ∷ xs) = omega (arith, weights_ones xs)

-- one byte more of a part
pub part_more : (s : List ℕ) (a i b : ℕ) → a + i < length s → b ≡ get_or s (a + i) 0 → take (i + 1) (drop a s) ≡ take i (drop a s) ++ (b ∷ [])
part_more s a i b h e =
    take_more (drop a s) i 0 (simp length-drop (omega arith)) ∙ ap (λ (y : ℕ). take i (drop a s) ++ (y ∷ [])) (get_or-drop a s i 0 ∙ sym e)

module _ {S V : Type 0} (means : List ℕ → V) (contents : S → Contents) where
  -- i bytes of a part of n have been read
  pub record Partly (s : S) (a n i : ℕ) (v : V) (s' : S) : Type 0 where
    pub value : n ≤ 256 → a + n ≤ length (contents s).bytes → v ≡ means (take i (drop a (contents s).bytes))
    pub counts : (contents s').reads ≡ summed (contents s).reads i
    pub same_bytes : (contents s').bytes ≡ (contents s).bytes
    pub same_capacity : (contents s').capacity ≡ (contents s).capacity

module _ {S V : Type 0} {means : List ℕ → V} {contents : S → Contents} {s : S} {a n : ℕ} where
  pub partly_none : {v : V} → (contents s).reads < 2 ^ 64 → v ≡ means [] → Partly means contents s a n 0 v s
  partly_none h e = record { value = λ _ _. e; counts = omega arith; same_bytes = refl; same_capacity = refl }

  pub partly_more : {s₁ s₂ : S} {i b : ℕ} {v v' : V} → i < n → Partly means contents s a n i v s₁
      → ReadsAt contents s₁ (a + i) (Some b) s₂ → Adds (λ _. 1) means v b v'
      → Partly means contents s a n (i + 1) v' s₂
  partly_more {i = i} {b = b} lt p R add = record {
    value = λ short h.
        let xs : List ℕ = take i (drop a (contents s).bytes) in
        let here : b ≡ get_or (contents s).bytes (a + i) 0 = R.gives.1 ∙ ap (λ (l : List ℕ). get_or l (a + i) 0) p.same_bytes in
        let more : take (i + 1) (drop a (contents s).bytes) ≡ xs ++ (b ∷ []) = part_more (contents s).bytes a i b (omega arith) here in
        let size : length xs ≤ i = simp length-take (omega arith) in
        let light : weights (λ _. 1) (xs ++ (b ∷ [])) ≤ heaviest = omega (arith, weights_append (λ _. 1) xs (b ∷ []), weights_ones xs) in
        add.adds xs light (p.value short h) ∙ ap means (sym more);
    counts = omega (arith, R.counts, p.counts);
    same_bytes = R.same_bytes ∙ p.same_bytes;
    same_capacity = R.same_capacity ∙ p.same_capacity;
  }

  pub partly_all : {s₁ : S} {i : ℕ} {v : V} → n ≤ i → i ≤ n → Partly means contents s a n i v s₁ → Measured means contents s a n (Ok v) s₁
  partly_all ge le p = record {
    value = λ short h. ap Ok (p.value short h ∙ ap (λ (k : ℕ). means (take k (drop a (contents s).bytes))) (omega arith));
    counts = λ h. omega (arith, p.counts);
    few = omega (arith, p.counts);
    same_bytes = p.same_bytes;
    same_capacity = p.same_capacity;
  }

  pub partly_stop : {s₁ s₂ : S} {i : ℕ} {v : V} {r : Result V Unsound} → i < n → Partly means contents s a n i v s₁
      → ReadsAt contents s₁ (a + i) None s₂ → Measured means contents s a n r s₂
  partly_stop {i = i} lt p R =
      let past : length (contents s).bytes ≤ a + i = omega (arith, R.gives, ap length p.same_bytes) in record {
        value = λ short h. absurd (omega arith);
        counts = λ h. absurd (omega arith);
        few = omega (arith, R.counts, p.counts);
        same_bytes = R.same_bytes ∙ p.same_bytes;
        same_capacity = R.same_capacity ∙ p.same_capacity;
      }
