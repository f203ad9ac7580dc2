-- What reading a sound tree gives. Assumes nothing.
use Rattle.std.proofs.Common.{sym, refl, ap, ◌∙◌, arith}
use Rattle.measures.specs.Law.{Joins, heaviest}
use Rattle.std.specs.Prelude.{◌≡◌, List, [], ◌++◌, ℕ, zero, suc, ◌≤◌, get_or}
use Rattle.std.specs.declared.option.Option.{Option}
use Rattle.std.specs.declared.option.Option.TheVariants.{None, Some}
use Rattle.std.specs.declared.result.Result.{Result}
use Rattle.std.specs.declared.result.Result.TheVariants.{Ok, Err}
use Rattle.slots.specs.Words.{Unsound, Digit, One, Two, Three, Four, Tree, Record}
use Rattle.slots.specs.Ghost.{Twig, leaf, two, three, Arm, Finger, deep, none, root, rows_twig, rows_arm, rows_part, rows, FitTwig, FitArm, FitPart, Fit}
use Rattle.slots.specs.Values.{mean, wt, JoinedOk, value_in}
use Rattle.slots.specs.Post.{DigitValued, PartValued, TreeValued, LevelValued}
use Rattle.slots.proofs.Shapes.{ok_err, ok_same, arm_one, arm_two, arm_three, arm_four, part_none, part_some}
use Rattle.slots.proofs.Weights.{wt_append, join_rows}

module _ {R V : Type 0} (mn : List R → V) (rs : List (Record R V)) where
  pub twig_value : (w : Twig R V) (k i : ℕ) → root w ≡ i → FitTwig mn rs w k → value_in (get_or rs i none) ≡ Ok (mn (rows_twig w))
  twig_value (leaf j row v) zero i e fit = ap (λ q. value_in (get_or rs q none)) (sym e) ∙ ap value_in fit.0.is ∙ ap Ok fit.1
  twig_value (leaf j row v) (suc k) i e fit = absurd fit
  twig_value (two j v x y) zero i e fit = absurd fit
  twig_value (two j v x y) (suc k) i e fit = ap (λ q. value_in (get_or rs q none)) (sym e) ∙ ap value_in fit.0.is ∙ ap Ok fit.1
  twig_value (three j v x y z) zero i e fit = absurd fit
  twig_value (three j v x y z) (suc k) i e fit = ap (λ q. value_in (get_or rs q none)) (sym e) ∙ ap value_in fit.0.is ∙ ap Ok fit.1

  pub deep_value : (i : ℕ) (v : V) (F : Arm R V) (m : Finger R V) (B : Arm R V) (k : ℕ) → Fit mn rs (deep i v F m B) k → value_in (get_or rs i none) ≡ Ok (mn ((rows_arm F ++ rows m) ++ rows_arm B))
  deep_value i v F m B k fit = ap value_in fit.0.is ∙ ap Ok fit.1

module _ {I V : Type 0} {weigh : I → ℕ} {means : List I → V} where
  pub join_both : {v w r : V} → Joins weigh means v w r → JoinedOk weigh means (Ok v) (Ok w) (Ok r)
  join_both j = record { joins = λ xs ys light p q. ap Ok (j.joins xs ys light (ok_same refl p) (ok_same refl q)) }

  -- there is no value before
  pub join_stopped : {e : Unsound} {w r : Result V Unsound} → JoinedOk weigh means (Err e) w r
  join_stopped = record { joins = λ xs ys light p q. absurd (ok_err p refl) }

module _ {R I V : Type 0} {weigh : I → ℕ} {means : List I → V} {rs : List (Record R V)} (d : Digit) where
  pub digit_one : {a : ℕ} {r : Result V Unsound} → d ≡ One a → r ≡ value_in (get_or rs a none) → DigitValued weigh means rs d r
  digit_one {a} {r} is va = record {
    values = λ items A k e fit light.
        arm_one (λ A. FitArm (mean means items) rs A k → r ≡ Ok (mean means items (rows_arm A))) a
        (λ x p fx. va ∙ twig_value (mean means items) rs x k a p fx) A (e ∙ is) fit;
  }

  pub digit_two : {a b : ℕ} {r j : Result V Unsound} → d ≡ Two a b → r ≡ value_in (get_or rs a none) → JoinedOk weigh means r (value_in (get_or rs b none)) j → DigitValued weigh means rs d j
  digit_two {a} {b} {r} {j} is va jo = record {
    values = λ items A k e fit light.
        arm_two (λ A. FitArm (mean means items) rs A k → wt weigh items (rows_arm A) ≤ heaviest → j ≡ Ok (mean means items (rows_arm A))) a b
        (λ x y p q f l. join_rows jo items (rows_twig x) (rows_twig y) l (va ∙ twig_value (mean means items) rs x k a p f.0) (twig_value (mean means items) rs y k b q f.1)) A (e ∙ is) fit light;
  }

  pub digit_three : {a b c : ℕ} {r j₁ j : Result V Unsound} → d ≡ Three a b c → r ≡ value_in (get_or rs a none) → JoinedOk weigh means r (value_in (get_or rs b none)) j₁ → JoinedOk weigh means j₁ (value_in (get_or rs c none)) j → DigitValued weigh means rs d j
  digit_three {a} {b} {c} {r} {j₁} {j} is va jo₁ jo = record {
    values = λ items A k e fit light.
        arm_three (λ A. FitArm (mean means items) rs A k → wt weigh items (rows_arm A) ≤ heaviest → j ≡ Ok (mean means items (rows_arm A))) a b c
        (λ x y z p q o f l.
        join_rows jo items (rows_twig x ++ rows_twig y) (rows_twig z) l
        (join_rows jo₁ items (rows_twig x) (rows_twig y) (omega (arith, wt_append weigh items (rows_twig x ++ rows_twig y) (rows_twig z)))
        (va ∙ twig_value (mean means items) rs x k a p f.0) (twig_value (mean means items) rs y k b q f.1))
        (twig_value (mean means items) rs z k c o f.2)) A (e ∙ is) fit light;
  }

  pub digit_four : {a b c h : ℕ} {r j₁ j₂ j : Result V Unsound} → d ≡ Four a b c h → r ≡ value_in (get_or rs a none) → JoinedOk weigh means r (value_in (get_or rs b none)) j₁ → JoinedOk weigh means j₁ (value_in (get_or rs c none)) j₂ → JoinedOk weigh means j₂ (value_in (get_or rs h none)) j → DigitValued weigh means rs d j
  digit_four {a} {b} {c} {h} {r} {j₁} {j₂} {j} is va jo₁ jo₂ jo = record {
    values = λ items A k e fit light.
        arm_four (λ A. FitArm (mean means items) rs A k → wt weigh items (rows_arm A) ≤ heaviest → j ≡ Ok (mean means items (rows_arm A))) a b c h
        (λ x y z w p q o n f l.
        let l₂ = wt_append weigh items ((rows_twig x ++ rows_twig y) ++ rows_twig z) (rows_twig w) in
        let l₁ = wt_append weigh items (rows_twig x ++ rows_twig y) (rows_twig z) in
        join_rows jo items ((rows_twig x ++ rows_twig y) ++ rows_twig z) (rows_twig w) l
        (join_rows jo₂ items (rows_twig x ++ rows_twig y) (rows_twig z) (omega (arith, l₂))
        (join_rows jo₁ items (rows_twig x) (rows_twig y) (omega (arith, l₁, l₂))
        (va ∙ twig_value (mean means items) rs x k a p f.0) (twig_value (mean means items) rs y k b q f.1))
        (twig_value (mean means items) rs z k c o f.2))
        (twig_value (mean means items) rs w k h n f.3)) A (e ∙ is) fit light;
  }

module _ {R I V : Type 0} {weigh : I → ℕ} {means : List I → V} {rs : List (Record R V)} where
  pub part_empty : {p : Option Digit} {v : V} → p ≡ None → v ≡ means [] → PartValued weigh means rs p (Ok v)
  part_empty {p} {v} is e = record { values = λ items Q k eq fit light. part_none (λ Q. ◌≡◌ {A = Result V Unsound} (Ok v) (Ok (mean means items (rows_part Q)))) (ap (λ q. Ok q) e) Q (eq ∙ is) }

  pub part_full : {p : Option Digit} {d : Digit} {r : Result V Unsound} → p ≡ Some d → DigitValued weigh means rs d r → PartValued weigh means rs p r
  part_full {p} {d} {r} is va = record {
    values = λ items Q k eq fit light.
        part_some (λ Q. FitPart (mean means items) rs Q k → wt weigh items (rows_part Q) ≤ heaviest → r ≡ Ok (mean means items (rows_part Q))) d
        (λ A e f l. va.values items A k e f l) Q (eq ∙ is) fit light;
  }

  pub level_joined : {f b : Digit} {t : Tree} {r₁ r₂ r₃ : Result V Unsound} {v w j x all : V} → DigitValued weigh means rs f r₁ → r₁ ≡ Ok v → TreeValued weigh means rs t r₂ → r₂ ≡ Ok w → Joins weigh means v w j
      → DigitValued weigh means rs b r₃ → r₃ ≡ Ok x → Joins weigh means j x all → LevelValued weigh means rs f t b (Ok all)
  level_joined df v-is tm w-is j₁ db x-is j₂ = record {
    values = λ items F m B k h ef et eb ff fm fb light.
        let l₂ = wt_append weigh items (rows_arm F ++ rows m) (rows_arm B) in
        let l₁ = wt_append weigh items (rows_arm F) (rows m) in
        join_rows (join_both j₂) items (rows_arm F ++ rows m) (rows_arm B) light
        (join_rows (join_both j₁) items (rows_arm F) (rows m) (omega (arith, l₂)) (sym v-is ∙ df.values items F k ef ff (omega (arith, l₁, l₂))) (sym w-is ∙ tm.values items m h et fm))
        (sym x-is ∙ db.values items B k eb fb (omega (arith, l₁, l₂)));
  }

  module _ {f b : Digit} {t : Tree} {r all : Result V Unsound} {e : Unsound} where
    pub level_no_front : DigitValued weigh means rs f r → r ≡ Err e → LevelValued weigh means rs f t b all
    level_no_front df bad = record {
      values = λ items F m B k h ef et eb ff fm fb light.
          absurd (ok_err (df.values items F k ef ff (omega (arith, wt_append weigh items (rows_arm F) (rows m), wt_append weigh items (rows_arm F ++ rows m) (rows_arm B)))) bad);
    }

    pub level_no_middle : TreeValued weigh means rs t r → r ≡ Err e → LevelValued weigh means rs f t b all
    level_no_middle tm bad = record { values = λ items F m B k h ef et eb ff fm fb light. absurd (ok_err (tm.values items m h et fm) bad) }

    pub level_no_back : DigitValued weigh means rs b r → r ≡ Err e → LevelValued weigh means rs f t b all
    level_no_back db bad = record {
      values = λ items F m B k h ef et eb ff fm fb light.
          absurd (ok_err (db.values items B k eb fb (omega (arith, wt_append weigh items (rows_arm F ++ rows m) (rows_arm B)))) bad);
    }
