-- The first line of an input.
use Rattle.std.proofs.Common.{◌≡◌, ℕ, ◌<◌, List, [], ◌∷◌, length, Some, None, Option, MatchOption, Bor, sym, ap, ◌∙◌, arith}
use Rattle.std.specs.Option.{unwrap_or}
use Rattle.plain.specs.Script.{parted, ended, lines_of}
use Rattle.lines.proofs.Parting.{parted_some}

pub lines_first : (t x y : List ℕ) → parted 10 t ≡ x ∷ parted 10 y → lines_of t ≡ x ∷ lines_of y
lines_first t x y e =
    let p = parted_some 10 y in
    ap ended (e ∙ ap (λ (zs : List (List ℕ)). x ∷ zs) p.1.1) ∙ ap (λ (zs : List (List ℕ)). x ∷ ended zs) (sym p.1.1)

pub lines_last : (t : List ℕ) → 0 < length t → parted 10 t ≡ t ∷ [] → lines_of t ≡ t ∷ lines_of []
lines_last [] h e = absurd (omega arith)
lines_last (b ∷ bs) h e = ap ended e

-- the line, and what is left after it
pub first_line : (t : List ℕ) (all none : Bor (List ℕ)) (o : Option (Bor (List ℕ) × Bor (List ℕ))) → 0 < length t → all.now ≡ t → none.now ≡ [] → MatchOption o (parted 10 t ≡ t ∷ []) (λ x. parted 10 t ≡ x.0.now ∷ parted 10 x.1.now) → lines_of t ≡ (unwrap_or o (all, none)).0.now ∷ lines_of (unwrap_or o (all, none)).1.now
first_line t all none None h a n e = lines_last t h e ∙ ap (λ (l : List ℕ). l ∷ lines_of []) (sym a) ∙ ap (λ (l : List ℕ). all.now ∷ lines_of l) (sym n)
first_line t all none (Some x) h a n e = lines_first t x.0.now x.1.now e
