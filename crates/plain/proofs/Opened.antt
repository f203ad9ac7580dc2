-- Opening cuts the store's bytes into pieces that spell them.
use Rattle.std.proofs.Common.{◌≡◌, ℕ, zero, suc, ◌+◌, ◌*◌, ◌/◌, ◌%◌, ◌<◌, ◌≤◌, Bool, true, false, cond, eqb, List, [], ◌∷◌, ◌++◌, length, take, drop, Some, None, Ok, Err, Option, Result, sym, refl, ap, ◌∙◌, subst, append-nil, arith, length-drop, take-append-drop, take_all, drop-drop}
use lib.Seq.{drop-length}
use Rattle.std.proofs.lemmas.Bool.{leb-true, eqb-true, eqb-false}
use Rattle.plain.specs.Lists.{first_no}
use Rattle.plain.specs.Pieces.{piece, spell, blocks}
use Rattle.plain.specs.Machine.{Machine, text, limit, watched, fresh, open_asked, opening}
use Rattle.plain.specs.Laws.{AllGood, Proper}
use Rattle.plain.specs.declared.faults.TextFault.{TextFault}
use Rattle.plain.proofs.Asking.{Passed, passed}

pub blocks_spell : (s : List ℕ) (k a r : ℕ) → a + 256 * k + r ≡ length s → spell s (blocks a k r) ≡ drop a s
blocks_spell s zero a r e = go (eqb r 0) refl
  where
    go : (t : Bool) → eqb r 0 ≡ t → spell s (cond t [] (piece a r ∷ [])) ≡ drop a s
    go true f =
        let z : r ≡ 0 = eqb-true r 0 f in
        let k : a ≡ length s = omega arith in
        sym (ap (λ (j : ℕ). drop j s) k ∙ drop-length s)
    go false f = append-nil (take r (drop a s)) ∙ take_all r (drop a s) (simp length-drop (omega arith))
blocks_spell s (suc k) a r e =
    ap (λ x. take 256 (drop a s) ++ x) (blocks_spell s k (a + 256) r (omega arith) ∙ sym (drop-drop 256 a s))
    ∙ take-append-drop 256 (drop a s)

pub blocks_good : (s : List ℕ) (k a r : ℕ) → r < 256 → a + 256 * k + r ≡ length s → AllGood s (blocks a k r)
blocks_good s zero a r h e = go (eqb r 0) refl
  where
    go : (t : Bool) → eqb r 0 ≡ t → AllGood s (cond t [] (piece a r ∷ []))
    go true f = tt
    go false f = let n : r ≡ 0 → ⊥ = eqb-false r 0 f in ((omega arith, omega arith, omega arith), tt)
blocks_good s (suc k) a r h e = ((omega arith, omega arith, omega arith), blocks_good s k (a + 256) r h (omega arith))

pub blocks_length : (k a r p : ℕ) → 256 * k + r ≤ 256 * p → length (blocks a k r) ≤ p
blocks_length zero a r p h = go (eqb r 0) refl
  where
    go : (t : Bool) → eqb r 0 ≡ t → length (cond t [] (piece a r ∷ [])) ≤ p
    go true f = omega arith
    go false f = let n : r ≡ 0 → ⊥ = eqb-false r 0 f in omega arith
blocks_length (suc k) a r zero h = absurd (omega arith)
blocks_length (suc k) a r (suc p) h =
    let ih : length (blocks (a + 256) k r) ≤ p = blocks_length k (a + 256) r p (omega arith) in omega arith

pub opens : (s : List ℕ) (c u v : ℕ) (m : Machine) → length s ≤ c → opening s c u v ≡ Ok m → (text m ≡ s) × Proper m
opens s c u v m fits e = go (first_no (open_asked s u v)) refl e
  where
    sum : 0 + 256 * (length s / 256) + length s % 256 ≡ length s
    sum = omega arith

    good : Passed (open_asked s u v) → (text (fresh s c u v) ≡ s) × Proper (fresh s c u v)
    good y =
        let h : length s ≤ 256 * limit (watched u) = leb-true _ _ y.1.0 in
        let l : length (blocks 0 (length s / 256) (length s % 256)) ≤ limit (watched u) =
        blocks_length (length s / 256) 0 (length s % 256) (limit (watched u)) (omega arith) in (
          blocks_spell s (length s / 256) 0 (length s % 256) sum,
          record {
            pieces = blocks_good s (length s / 256) 0 (length s % 256) (omega arith) sum;
            clip = tt;
            store = fits;
            few = omega arith;
            few_marks = omega arith;
            marks = tt;
          },
        )

    go : (o : Option TextFault) → first_no (open_asked s u v) ≡ o
        → elim o as (λ _. Result Machine TextFault) [ None ↦ Ok (fresh s c u v) | Some f ↦ Err f ] ≡ Ok m
        → (text m ≡ s) × Proper m
    go None f e =
        let q : fresh s c u v ≡ m = cc in
        subst (λ (x : Machine). (text x ≡ s) × Proper x) q (good (passed (open_asked s u v) f))
    go (Some x) f e = let z : ◌≡◌ {A = ℕ} 0 1 = cc in absurd (omega arith)
