-- The states by their numbers.
use Rattle.std.specs.Prelude.{◌≡◌, ℕ, zero, suc, ◌≤◌, min, false, [], ◌∷◌, ◌==◌, slice_index_or, refl}
use Rattle.std.proofs.Common.{sym, ap, ◌∙◌, arith}
use Rattle.lexer.specs.declared.states.State.{State}
use Rattle.lexer.specs.declared.states.State.TheVariants.{
  Start,
  Blank,
  Line,
  Word,
  Number,
  Sign,
  Open,
  Close,
  Quoted,
  Escaped,
  String,
  Comment,
  Bad,
}

abbrev pub number_of : State → ℕ
number_of Start = 0
number_of Blank = 1
number_of Line = 2
number_of Word = 3
number_of Number = 4
number_of Sign = 5
number_of Open = 6
number_of Close = 7
number_of Quoted = 8
number_of Escaped = 9
number_of String = 10
number_of Comment = 11
number_of Bad = 12

-- a number that is no state's is that of the last one
abbrev pub state_of : ℕ → State
state_of n = slice_index_or
    (Start ∷ Blank ∷ Line ∷ Word ∷ Number ∷ Sign ∷ Open ∷ Close ∷ Quoted ∷ Escaped
    ∷ String ∷ Comment ∷ Bad ∷ []) n Bad

pub number_bound : (s : State) → number_of s ≤ 12
number_bound Start = omega arith
number_bound Blank = omega arith
number_bound Line = omega arith
number_bound Word = omega arith
number_bound Number = omega arith
number_bound Sign = omega arith
number_bound Open = omega arith
number_bound Close = omega arith
number_bound Quoted = omega arith
number_bound Escaped = omega arith
number_bound String = omega arith
number_bound Comment = omega arith
number_bound Bad = omega arith

-- what is neither an open nor a close
pub other_number : (s : State) → (s ≡ Open → ⊥) → (s ≡ Close → ⊥) → ((number_of s == 6) ≡ false) × ((number_of s == 7) ≡ false)
other_number Start f g = (refl, refl)
other_number Blank f g = (refl, refl)
other_number Line f g = (refl, refl)
other_number Word f g = (refl, refl)
other_number Number f g = (refl, refl)
other_number Sign f g = (refl, refl)
other_number Open f g = absurd (f refl)
other_number Close f g = absurd (g refl)
other_number Quoted f g = (refl, refl)
other_number Escaped f g = (refl, refl)
other_number String f g = (refl, refl)
other_number Comment f g = (refl, refl)
other_number Bad f g = (refl, refl)

pub state_number : (s : State) → state_of (number_of s) ≡ s
state_number Start = refl
state_number Blank = refl
state_number Line = refl
state_number Word = refl
state_number Number = refl
state_number Sign = refl
state_number Open = refl
state_number Close = refl
state_number Quoted = refl
state_number Escaped = refl
state_number String = refl
state_number Comment = refl
state_number Bad = refl

-- states with one number are one state
pub number_same : {s t : State} → number_of s ≡ number_of t → s ≡ t
number_same {s = s} {t = t} e = sym (state_number s) ∙ ap state_of e ∙ state_number t

pub number_state : (n : ℕ) → number_of (state_of n) ≡ min n 12
number_state zero = refl
number_state (suc zero) = refl
number_state (suc (suc zero)) = refl
number_state (suc (suc (suc zero))) = refl
number_state (suc (suc (suc (suc zero)))) = refl
number_state (suc (suc (suc (suc (suc zero))))) = refl
number_state (suc (suc (suc (suc (suc (suc zero)))))) = refl
number_state (suc (suc (suc (suc (suc (suc (suc zero))))))) = refl
number_state (suc (suc (suc (suc (suc (suc (suc (suc zero)))))))) = refl
number_state (suc (suc (suc (suc (suc (suc (suc (suc (suc zero))))))))) = refl
number_state (suc (suc (suc (suc (suc (suc (suc (suc (suc (suc zero)))))))))) = refl
number_state (suc (suc (suc (suc (suc (suc (suc (suc (suc (suc (suc zero))))))))))) = refl
number_state (suc (suc (suc (suc (suc (suc (suc (suc (suc (suc (suc (suc zero)))))))))))) = refl
number_state (suc (suc (suc (suc (suc (suc (suc (suc (suc (suc (suc (suc (suc n))))))))))))) = omega arith
