-- Readings one after another.
use Rattle.std.proofs.Common.{ℕ, ◌+◌, ◌≤◌, List, ◌∙◌, arith}
use Rattle.stores.specs.Stores.{Contents}
use Rattle.asking.specs.Texts.{Reads}

module _ {S : Type 0} {contents : S → Contents} where
  pub reads_more : {m n : ℕ} {s s' : S} → m ≤ n → Reads contents m s s' → Reads contents n s s'
  reads_more le R = record { few = omega (arith, R.few); same_bytes = R.same_bytes; same_capacity = R.same_capacity }

  pub reads_then : {k m n : ℕ} {s s₁ s₂ : S} → m + n ≤ k → Reads contents m s s₁ → Reads contents n s₁ s₂ → Reads contents k s s₂
  reads_then le R Q = record {
    few = omega (arith, R.few, Q.few);
    same_bytes = Q.same_bytes ∙ R.same_bytes;
    same_capacity = Q.same_capacity ∙ R.same_capacity;
  }
