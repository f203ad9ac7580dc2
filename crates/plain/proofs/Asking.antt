-- What is known after every question was answered with yes.
use Rattle.std.proofs.Common.{◌≡◌, ℕ, Bool, true, false, cond, List, [], ◌∷◌, Some, None, Option, refl, arith}
use Rattle.std.specs.Option.{option_map}
use Rattle.plain.specs.Lists.{first_no}
use Rattle.plain.specs.Machine.{Machine, Call, allowed, asked, refusal}
use Rattle.plain.specs.declared.faults.TextFault.{TextFault}
use Rattle.plain.specs.declared.faults.CallFault.TheVariants.{NotAllowed, Text}

-- every test passed
abbrev pub Passed : {F : Type 0} → List (Bool × F) → Type 0
Passed [] = Unit {0}
Passed (q ∷ qs) = (q.0 ≡ true) × Passed qs

pub passed : {F : Type 0} (qs : List (Bool × F)) → first_no qs ≡ None → Passed qs
passed [] e = tt
passed {F} (q ∷ qs) e = go q.0 refl (passed qs) e
  where
    go : (b : Bool) → q.0 ≡ b → (first_no qs ≡ None → Passed qs) → cond b (first_no qs) (Some q.1) ≡ None → (q.0 ≡ true) × Passed qs
    go true f ih e = (f, ih e)
    go false f ih e = let z : ◌≡◌ {A = ℕ} 0 1 = cc in absurd (omega arith)

unmapped : (o : Option TextFault) → option_map Text o ≡ None → o ≡ None
unmapped None e = refl
unmapped (Some f) e = let z : ◌≡◌ {A = ℕ} 0 1 = cc in absurd (omega arith)

-- an accepted call is allowed, and each of its questions was answered with yes
pub accepts : (m : Machine) (c : Call) → refusal m c ≡ None → Passed (asked m c)
accepts m c e = go (allowed m c) e
  where
    go : (b : Bool) → cond b (option_map Text (first_no (asked m c))) (Some NotAllowed) ≡ None → Passed (asked m c)
    go true e = passed (asked m c) (unmapped (first_no (asked m c)) e)
    go false e = let z : ◌≡◌ {A = ℕ} 0 1 = cc in absurd (omega arith)
