-- The paths of finding a row.
use Rattle.std.proofs.Common.{sym, ap, ◌∙◌, subst, inl, inr, ⊎_elim, arith}
use Rattle.std.specs.Prelude.{◌≡◌, Bool, List, ℕ, get_or}
use Rattle.std.specs.declared.option.Option.{Option}
use Rattle.std.specs.declared.option.Option.TheVariants.{None, Some}
use Rattle.std.specs.declared.result.Result.{Result}
use Rattle.std.specs.declared.result.Result.TheVariants.{Ok, Err}
use Rattle.std.specs.Option.{option_map, option_transpose}
use Rattle.seek.specs.Words.{Unsound, Tree, Record}
use Rattle.slots.specs.Ghost.{none}
use Rattle.slots.specs.Values.{row_in}
use Rattle.slots.proofs.Shapes.{ok_err, ok_same}
use Rattle.seek.specs.Places.{Finds}
use Rattle.seek.specs.Post.{Searched}
use Rattle.seek.specs.Beyond.{SoughtAfter}
use Rattle.asking.specs.Rows.{TurnsIn, RowFound, RowSought}

pub some_none : {X : Type 0} {x : X} → Some x ≡ None → ⊥
some_none e = let z : ◌≡◌ {A = ℕ} 0 1 = cc in omega arith

pub some_same : {X : Type 0} {x y : X} → Some x ≡ Some y → x ≡ y
some_same e = cc

-- the row in the slot that was found, if any was
abbrev pub row_of : {R V : Type 0} → List (Record R V) → Option ℕ → Result (Option R) Unsound
row_of rs f = option_transpose (option_map (λ i. row_in (get_or rs i none)) f)

-- from the slot that was found to its row
module _ {R I V : Type 0} {means : List I → V} {says : V → Bool} {rs : List (Record R V)} {items : R → List I} {w : List I} {T : List R} {p : V} {q : Result (Option ℕ) Unsound}
    (F : Finds means says items rs w T p q) where
  not_lost : {e : Unsound} → q ≡ Err e → ⊥
  not_lost bad = ⊎_elim (λ n. ok_err n.0 bad) (λ y. ok_err y.1 bad) F

  row_turns : {f : Option ℕ} → q ≡ Ok f → TurnsIn means says items w T p (row_of rs f)
  row_turns got = ⊎_elim
      (λ n. inl (ap (row_of rs) (ok_same got n.0), n.1))
      (λ y.
      let G = y.2 in
      inr (
        G.row,
        ap (row_of rs) (ok_same got y.1) ∙ ap (λ z. option_transpose (Some z)) (ap row_in G.at.is),
        record { xs = G.xs; ys = G.ys; parts = G.text; past = G.past; yes = G.yes },
      )) F

module _ {R I V : Type 0} {weigh : I → ℕ} {means : List I → V} {says : V → Bool} {rs : List (Record R V)} {tr : Tree} {p p' : V} {q : Result (Option ℕ) Unsound}
    (S : Searched weigh means says rs tr p p' q) where
  pub row_lost : {e : Unsound} {r : Result (Option R) Unsound} → q ≡ Err e → RowFound weigh means says rs tr p p' r
  row_lost bad = record { finds = λ items w t is fit few light at. absurd (not_lost (S.finds items w t is fit few light at) bad) }

  pub row_read : {f : Option ℕ} {r : Result (Option R) Unsound} → q ≡ Ok f → r ≡ row_of rs f → RowFound weigh means says rs tr p p' r
  row_read got rd = record { finds = λ items w t is fit few light at. subst (TurnsIn means says items w _ p') (sym rd) (row_turns (S.finds items w t is fit few light at) got) }

module _ {R I V : Type 0} {weigh : I → ℕ} {means : List I → V} {from until : V → Bool} {rs : List (Record R V)} {tr : Tree} {p p' : V} {q : Result (Option ℕ) Unsound}
    (S : SoughtAfter weigh means from until rs tr p p' q) where
  pub later_lost : {e : Unsound} {r : Result (Option R) Unsound} → q ≡ Err e → RowSought weigh means from until rs tr p p' r
  later_lost bad = record {
    seeks = λ items w t is fit few light at. ⊎_elim (λ n. absurd (ok_err n.0 bad)) (λ G. absurd (not_lost G.rest.1 bad)) (S.seeks items w t is fit few light at);
  }

  pub later_read : {f : Option ℕ} {r : Result (Option R) Unsound} → q ≡ Ok f → r ≡ row_of rs f → RowSought weigh means from until rs tr p p' r
  later_read got rd = record {
    seeks = λ items w t is fit few light at. ⊎_elim
        (λ n. inl (rd ∙ ap (row_of rs) (ok_same got n.0), n.2))
        (λ G.
        inr (record {
          row = G.row;
          xs = G.xs;
          ys = G.ys;
          text = G.text;
          no = G.no;
          yes = G.yes;
          rest = subst (TurnsIn means until items w G.ys p') (sym rd) (row_turns G.rest.1 got);
        })) (S.seeks items w t is fit few light at);
  }
