-- Where a list is parted.
use Rattle.std.proofs.Common.{◌≡◌, ℕ, suc, ◌+◌, ◌-◌, ◌<◌, ◌≤◌, Bool, true, false, not, cond, eqb, ltb, ltb-true, ltb-false, List, [], ◌∷◌, length, take, drop, Some, None, Option, sym, refl, ap, ◌∙◌, arith}
use Rattle.std.proofs.lemmas.List.{take_rest, length-take, length-drop}
use Rattle.std.specs.List.{position_or_len}
use Rattle.plain.specs.Script.{onto, parted}

-- the place of the first byte s, or the length
abbrev pub place : ℕ → List ℕ → ℕ
place s t = position_or_len (λ b. eqb b s) t

pub shorter_here : (t : List ℕ) (i : ℕ) → i < length t → length (take (length t - (i + 1)) (drop (i + 1) t)) < length t
shorter_here t i h = simp (length-take, length-drop) (omega arith)

module _ (s : ℕ) where
  Parted : List ℕ → Type 0
  Parted t = (place s t < length t → parted s t ≡ take (place s t) t ∷ parted s (drop (place s t + 1) t)) × (length t ≤ place s t → parted s t ≡ t ∷ [])

  parted_by : (t : List ℕ) → Parted t
  unfolding Parted
  parted_by [] = (λ h. absurd (omega arith), λ h. refl)
  parted_by (b ∷ bs) = go (eqb b s) (parted_by bs)
    where
      go : (q : Bool) → Parted bs → (cond (not q) (1 + place s bs) 0 < suc (length bs) → cond q ([] ∷ parted s bs) (onto b (parted s bs)) ≡ take (cond (not q) (1 + place s bs) 0) (b ∷ bs) ∷ parted s (drop (cond (not q) (1 + place s bs) 0 + 1) (b ∷ bs)))
          × (suc (length bs) ≤ cond (not q) (1 + place s bs) 0 → cond q ([] ∷ parted s bs) (onto b (parted s bs)) ≡ (b ∷ bs) ∷ [])
      go true ih = (λ h. refl, λ h. absurd (omega arith))
      go false ih = (
        λ h. ap (onto b) (ih.0 (omega arith))
            ∙ ap (λ (k : ℕ). take k (b ∷ bs) ∷ parted s (drop (place s bs + 1) bs)) {x = suc (place s bs)} {y = 1 + place s bs} (omega arith)
            ∙ ap (λ (k : ℕ). take (1 + place s bs) (b ∷ bs) ∷ parted s (drop k (b ∷ bs))) {x = suc (place s bs + 1)} {y = 1 + place s bs + 1} (omega arith),
        λ h. ap (onto b) (ih.1 (omega arith)),
      )

  -- by what `position` gives, with the rest as a slice
  module _ (t : List ℕ) (r : Option ℕ) (e : r ≡ cond (ltb (place s t) (length t)) (Some (place s t)) None) where
    pub parted_nowhere : r ≡ None → parted s t ≡ t ∷ []
    unfolding Parted
    parted_nowhere z = go (ltb (place s t) (length t)) refl (sym z ∙ e)
      where
        go : (q : Bool) → ltb (place s t) (length t) ≡ q → None ≡ cond q (Some (place s t)) None → parted s t ≡ t ∷ []
        go true l f = let n : ◌≡◌ {A = ℕ} 0 1 = cc in absurd (omega arith)
        go false l f = (parted_by t).1 (omega (arith, ltb-false (place s t) (length t) l))

    pub parted_here : (i : ℕ) → r ≡ Some i → parted s t ≡ take i t ∷ parted s (take (length t - (i + 1)) (drop (i + 1) t))
    unfolding Parted
    parted_here i z = go (ltb (place s t) (length t)) refl (sym z ∙ e)
      where
        go : (q : Bool) → ltb (place s t) (length t) ≡ q → Some i ≡ cond q (Some (place s t)) None → parted s t ≡ take i t ∷ parted s (take (length t - (i + 1)) (drop (i + 1) t))
        go true l f =
            let n : place s t ≡ i = cc in
            (parted_by t).0 (omega (arith, ltb-true (place s t) (length t) l))
            ∙ ap (λ (k : ℕ). take k t ∷ parted s (drop (k + 1) t)) n
            ∙ ap (λ (l : List ℕ). take i t ∷ parted s l) (sym (take_rest t (i + 1)))
        go false l f = let n : ◌≡◌ {A = ℕ} 0 1 = cc in absurd (omega arith)

-- there is always a part
pub parted_some : (s : ℕ) (t : List ℕ) → (x : List ℕ) × ((xs : List (List ℕ)) × (parted s t ≡ x ∷ xs))
parted_some s [] = ([], ([], refl))
parted_some s (b ∷ bs) = go (eqb b s) (parted_some s bs)
  where
    go : (q : Bool) → (x : List ℕ) × ((xs : List (List ℕ)) × (parted s bs ≡ x ∷ xs)) → (x : List ℕ) × ((xs : List (List ℕ)) × (cond q ([] ∷ parted s bs) (onto b (parted s bs)) ≡ x ∷ xs))
    go true p = ([], (parted s bs, refl))
    go false p = (b ∷ p.0, (p.1.0, ap (onto b) p.1.1))
