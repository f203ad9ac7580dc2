-- A call of the list by what it is.
use Rattle.std.proofs.Common.{◌≡◌, ℕ, List, sym, subst, Bor}
use Rattle.plain.specs.Machine.{Outcome}
use Rattle.plain.specs.declared.calls.Call as calls
use Rattle.stores.specs.Stores.{Contents}
use Rattle.calls.specs.Calls.{plain_call}
use Rattle.calls.specs.Claim.{Moment}
use Rattle.calls.specs.Steps.{Performs}

module _ {A S : Type 0} (am : List ℕ → A) (contents : S → Contents) where
  pub performs_as : {x y : Moment A S} {call k : calls.Call (Bor (List ℕ))} {o o' : Outcome A} → call ≡ k → o ≡ o' → Performs am contents x (plain_call k) o' y → Performs am contents x (plain_call call) o y
  performs_as {x} {y} {call} {k} {o} {o'} is e p = subst (λ q. Performs am contents x (plain_call q) o y) (sym is) (subst (λ q. Performs am contents x (plain_call k) q y) (sym e) p)
