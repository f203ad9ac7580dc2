-- Which tokens need not be read again for their kind.
use Rattle.std.proofs.Common.{◌≡◌, ℕ, ◌<◌, Bool, true, false, cond, eqb, List, [], ◌∷◌, length, codes, refl, ap, arith}
use Rattle.std.proofs.lemmas.Bool.{and_right, or_from, ne_eqb, false≢true}
use Rattle.plain.specs.Lists.{same}
use Rattle.plain.specs.Tokens.{name_of, is_key, kind_of}
use Rattle.plain.specs.declared.answers.Kind.{Kind}
use Rattle.plain.specs.declared.answers.Kind.TheVariants.{Key, Word}

longer : (w key : List ℕ) → length key < length w → same w key ≡ false
longer [] key h = absurd (omega arith)
longer (x ∷ w) [] h = refl
longer (x ∷ w) (y ∷ key) h = and_right (eqb x y) (same w key) (longer w key (omega arith))

-- no key has more than five bytes
no_key : (w : List ℕ) → 5 < length w → is_key w ≡ false
no_key w h =
    or_from _ _ (or_from _ _ (or_from _ _ (or_from _ _ (or_from _ _
    (longer w (codes "open") (omega arith))
    (longer w (codes "lock") (omega arith)))
    (longer w (codes "wait") (omega arith)))
    (longer w (codes "until") (omega arith)))
    (longer w (codes "if") (omega arith)))
    (longer w (codes "end") (omega arith))

pub kind_long : (s : ℕ) (w : List ℕ) → 5 < length w → kind_of s w ≡ kind_of s []
kind_long s w h = ap (λ (b : Bool). elim (eqb s 3) [ true ↦ cond b Key Word | false ↦ name_of s ]) (no_key w h)

-- only words are keys
pub kind_other : (s : ℕ) (w : List ℕ) → (s ≡ 3 → ⊥) → kind_of s w ≡ kind_of s []
kind_other s w other = by (eqb s 3) (ne_eqb s 3 other)
  where
    by : (f : Bool) → f ≡ false → ◌≡◌ {A = Kind} (elim f [ true ↦ cond (is_key w) Key Word | false ↦ name_of s ]) (elim f [ true ↦ cond (is_key []) Key Word | false ↦ name_of s ])
    by true e = absurd (false≢true (let z : false ≡ true = cc in z))
    by false e = refl
