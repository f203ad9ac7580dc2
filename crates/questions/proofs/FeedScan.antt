-- The turns of a scan for a line feed.
use Rattle.std.proofs.Common.{◌≡◌, ℕ, suc, ◌+◌, ◌<◌, ◌≤◌, Bool, cond, List, [], ◌∷◌, ◌++◌, length, get_or, take, drop, Some, None, Ok, Err, Result, sym, refl, ap, ◌∙◌, arith, length-drop, length-take, take-take}
use Rattle.std.proofs.lemmas.Bool.{eq-eqb, ne_eqb}
use Rattle.plain.specs.Lists.{count}
use Rattle.plain.specs.Tokens.{feed}
use Rattle.plain.specs.Questions.{column}
use Rattle.measures.specs.Counts.{count_append}
use Rattle.stores.specs.Stores.{Contents, ReadsAt}
use Rattle.slots.specs.declared.records.Unsound.{Unsound}
use Rattle.pieces.proofs.PartRead.{part_more}
use Rattle.questions.specs.Lines.{FeedFound}
use Rattle.questions.proofs.LineStarts.{column_append}

module _ {S : Type 0} (contents : S → Contents) where
  -- of i bytes that were read, `met` are line feeds
  pub record Scanned (s : S) (a n number i met : ℕ) (s' : S) : Type 0 where
    pub met_is : a + n ≤ length (contents s).bytes → met ≡ count feed (take i (drop a (contents s).bytes))
    pub met_few : met ≤ i
    pub unmet : 1 ≤ number → met < number
    pub few : (contents s').reads ≤ (contents s).reads + i
    pub same_bytes : (contents s').bytes ≡ (contents s).bytes
    pub same_capacity : (contents s').capacity ≡ (contents s).capacity

module _ {S : Type 0} {contents : S → Contents} {s : S} {a n number : ℕ} where
  pub scan_none : Scanned contents s a n number 0 0 s
  scan_none = record { met_is = λ h. refl; met_few = omega arith; unmet = λ h. omega arith; few = omega arith; same_bytes = refl; same_capacity = refl }

  module _ {s₁ s₂ : S} {i met b : ℕ} (short : n ≤ 256) (lt : i < n) (K : Scanned contents s a n number i met s₁) (R : ReadsAt contents s₁ (a + i) (Some b) s₂) where
    more : a + n ≤ length (contents s).bytes → take (i + 1) (drop a (contents s).bytes) ≡ take i (drop a (contents s).bytes) ++ (b ∷ [])
    more h = part_more (contents s).bytes a i b (omega arith) (R.gives.1 ∙ ap (λ (l : List ℕ). get_or l (a + i) 0) K.same_bytes)

    feeds_more : a + n ≤ length (contents s).bytes → count feed (take (i + 1) (drop a (contents s).bytes)) ≡ met + (cond (feed b) 1 0 + 0)
    feeds_more h = ap (count feed) (more h) ∙ count_append feed (take i (drop a (contents s).bytes)) (b ∷ []) ∙ ap (λ (k : ℕ). k + (cond (feed b) 1 0 + 0)) (sym (K.met_is h))

    is_feed : b ≡ 10 → ◌≡◌ {A = ℕ} (cond (feed b) 1 0) 1
    is_feed e = ap (λ (t : Bool). cond t 1 0) (eq-eqb b 10 e)

    not_feed : (b ≡ 10 → ⊥) → ◌≡◌ {A = ℕ} (cond (feed b) 1 0) 0
    not_feed e = ap (λ (t : Bool). cond t 1 0) (ne_eqb b 10 e)

    few_more : (contents s₂).reads ≤ (contents s).reads + (i + 1)
    few_more = omega (arith, R.counts, K.few)

    pub scan_on : {m : ℕ} → (b ≡ 10 → ⊥) → m ≡ met → Scanned contents s a n number (i + 1) m s₂
    scan_on e m-is = record {
      met_is = λ h. omega (arith, feeds_more h, not_feed e);
      met_few = omega (arith, K.met_few);
      unmet = λ h. omega (arith, K.unmet h);
      few = few_more;
      same_bytes = R.same_bytes ∙ K.same_bytes;
      same_capacity = R.same_capacity ∙ K.same_capacity;
    }

    pub scan_met : {m : ℕ} → b ≡ 10 → (met + 1 ≡ number → ⊥) → m ≡ met + 1 → Scanned contents s a n number (i + 1) m s₂
    scan_met e other m-is = record {
      met_is = λ h. omega (arith, feeds_more h, is_feed e);
      met_few = omega (arith, K.met_few);
      unmet = λ h. omega (arith, K.unmet h);
      few = few_more;
      same_bytes = R.same_bytes ∙ K.same_bytes;
      same_capacity = R.same_capacity ∙ K.same_capacity;
    }

    pub scan_found : b ≡ 10 → met + 1 ≡ number → FeedFound contents s s₂ a n number (Ok (i + 1))
    scan_found e same = record {
      value = λ h some enough.
          let bs : List ℕ = take n (drop a (contents s).bytes) in
          let front : take (i + 1) bs ≡ take (i + 1) (drop a (contents s).bytes) = take-take (i + 1) n (drop a (contents s).bytes) (omega arith) in (
            i + 1,
            refl,
            record {
              within = simp (length-take, length-drop) (omega arith);
              feeds = ap (count feed) front ∙ feeds_more h ∙ (let z = is_feed e in omega arith);
              after = ap (column 0) (front ∙ more h) ∙ column_append 0 (take i (drop a (contents s).bytes)) (b ∷ []) ∙ ap (λ (t : Bool). cond t 0 (suc (column 0 (take i (drop a (contents s).bytes))))) (eq-eqb b 10 e);
            },
          );
      reading = record { few = omega (arith, few_more); same_bytes = R.same_bytes ∙ K.same_bytes; same_capacity = R.same_capacity ∙ K.same_capacity };
    }

  pub scan_stop : {s₁ s₂ : S} {i met : ℕ} {r : Result ℕ Unsound} → n ≤ 256 → i < n → Scanned contents s a n number i met s₁ → ReadsAt contents s₁ (a + i) None s₂ → FeedFound contents s s₂ a n number r
  scan_stop {i = i} short lt K R =
      let past : length (contents s).bytes ≤ a + i = omega (arith, R.gives, ap length K.same_bytes) in record {
        value = λ h some enough. absurd (omega arith);
        reading = record { few = omega (arith, R.counts, K.few); same_bytes = R.same_bytes ∙ K.same_bytes; same_capacity = R.same_capacity ∙ K.same_capacity };
      }

  pub scan_all : {s₁ : S} {i met : ℕ} {e : Unsound} → n ≤ 256 → n ≤ i → i ≤ n → Scanned contents s a n number i met s₁ → FeedFound contents s s₁ a n number (Err e)
  scan_all {i = i} short ge le K = record {
    value = λ h some enough.
        let all : count feed (take i (drop a (contents s).bytes)) ≡ count feed (take n (drop a (contents s).bytes)) = ap (λ (k : ℕ). count feed (take k (drop a (contents s).bytes))) (omega arith) in
        absurd (omega (arith, K.met_is h, K.unmet some));
    reading = record { few = omega (arith, K.few); same_bytes = K.same_bytes; same_capacity = K.same_capacity };
  }
