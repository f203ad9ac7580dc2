-- Records that are not readable, by their names and the number of their fields.
use Rattle.std.proofs.Common.{◌≡◌, ℕ, ◌≤◌, Bool, true, false, eqb, List, [], ◌∷◌, length, None, Option, sym, refl, ap, ◌∙◌}
use Rattle.std.proofs.lemmas.Bool.{and_right, le-leb}
use Rattle.plain.specs.Lists.{same}
use Rattle.plain.specs.Script.{Request, parted, read_fields, request_of_line}
use Rattle.lines.proofs.Parting.{parted_some}

-- a name of other than one byte is that of no record
nameless : (f : List ℕ) (b : ℕ) → (length f ≡ 1 → ⊥) → same f (b ∷ []) ≡ false
nameless [] b h = refl
nameless (x ∷ []) b h = absurd (h refl)
nameless (x ∷ (y ∷ ys)) b h = and_right (eqb x b) false refl

module _ (f : List ℕ) (h : length f ≡ 1 → ⊥) where
  pub nameless_one : None ≡ read_fields (f ∷ [])
  nameless_one = simp (nameless f)

  pub nameless_two : (x : List ℕ) → None ≡ read_fields (f ∷ (x ∷ []))
  nameless_two x = simp (nameless f)

  pub nameless_three : (x y : List ℕ) → None ≡ read_fields (f ∷ (x ∷ (y ∷ [])))
  nameless_three x y = simp (nameless f)

too_many : (f x y t : List ℕ) → None ≡ read_fields (f ∷ (x ∷ (y ∷ parted 9 t)))
too_many f x y t = let p = parted_some 9 t in sym (ap (λ (zs : List (List ℕ)). read_fields (f ∷ (x ∷ (y ∷ zs)))) p.1.1)

-- a line of more than three fields
module _ (l f r x r' y t : List ℕ) where
  pub too_long : length l ≤ 4200 → parted 9 l ≡ f ∷ parted 9 r → parted 9 r ≡ x ∷ parted 9 r' → parted 9 r' ≡ y ∷ parted 9 t → None ≡ request_of_line l
  too_long h p q s =
      too_many f x y t
      ∙ ap read_fields (sym (p ∙ ap (λ (zs : List (List ℕ)). f ∷ zs) (q ∙ ap (λ (zs : List (List ℕ)). x ∷ zs) s)))
      ∙ sym (ap (λ (b : Bool). elim b as (λ _. Option Request) [ true ↦ read_fields (parted 9 l) | false ↦ None ]) (le-leb (length l) 4200 h))
