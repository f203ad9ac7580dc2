use Rattle.std.proofs.Common.{[], map, vec_items, refl}
use Rattle.std.proofs.lemmas.List.{length-map, get_or-map}
use Rattle.lines.specs.Columns.{column_bytes}
use Rattle.lines.proofs.Appending.{kept_same, kept_more, kept_then, failed}
use Rattle.lines.proofs.Printed.{print_more, print_last}
use Rattle.lines.proofs.columns.put_line.Goals as goal

pub loop-i-init : goal.loop-i-init
loop-i-init c = (refl, kept_same _ _ refl)

pub returns-in_err-put_gap : goal.returns-in_err-put_gap
returns-in_err-put_gap c =
    failed _ _ _ _ c.from_residual.ensures.0
    (kept_then _ (vec_items c.loop-i.out) _ c.loop-i.invariant.1 c.in_err-put_gap.ensures)

pub returns-in_err-put_column : goal.returns-in_err-put_column
returns-in_err-put_column c =
    failed _ _ _ _ c.from_residual-in_err-put_column.ensures.0
    (kept_then _ (vec_items c.loop-i.out) _ c.loop-i.invariant.1
    (kept_then _ (vec_items c.put_gap.new.out) _ (kept_more _ _ _ c.in_ok-put_gap.ensures) c.in_err-put_column.ensures))

pub loop-i-preserved : goal.loop-i-preserved
loop-i-preserved c =
    let cs = c.args.columns.now in
    let i = c.loop-i.i in
    let out = vec_items c.loop-i.out in
    let mid = vec_items c.put_gap.new.out in
    let new = vec_items c.put_column.new.out in
    let gap = c.in_ok-put_gap.ensures in
    let field = c.in_ok-put_column.ensures in (
      print_more i (map column_bytes cs) out new _ mid _ (rw length-map c.loop-i-test.true) c.loop-i.invariant.0 gap field
          (get_or-map column_bytes cs i _ [] c.loop-i-test.true),
      kept_then _ out new c.loop-i.invariant.1 (kept_then out mid new (kept_more out _ mid gap) (kept_more mid _ new field)),
    )

pub returns : goal.returns
returns c =
    print_last c.loop-i.i (map column_bytes c.args.columns.now) (vec_items c.loop-i.out) _ _
    (rw length-map c.loop-i-test.false) c.loop-i.invariant.0 c.in_ok-push.ensures.items
