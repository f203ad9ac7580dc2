use Rattle.std.proofs.Common.{refl, rules}
use Rattle.calls.proofs.CallKinds.{whole_rest}
use Rattle.calls.proofs.Made.{not_allowed}
use Rattle.calls.proofs.TextEdits.{no_clip_lem, unlent, whole_edit, whole_cut, whole_uncut}
use Rattle.calls.proofs.editing.edit_whole.Goals as goal

pub returns-in-Insert : goal.returns-in-Insert
returns-in-Insert g c kind z = whole_edit g.A.Measure.means g.S.Store.contents c.args.slots.now c.insert-result.new.slots c.args.marks.now c.insert-result.new.marks c.args.store.now c.insert-result.new.store z c.args.whole c.insert-result.new.self c.insert-result.result c.in-Insert.is refl (λ m. refl) (search rules) c.insert-result.ensures.edits

pub returns-in-Delete : goal.returns-in-Delete
returns-in-Delete g c kind z = whole_edit g.A.Measure.means g.S.Store.contents c.args.slots.now c.delete-result.new.slots c.args.marks.now c.delete-result.new.marks c.args.store.now c.delete-result.new.store z c.args.whole c.delete-result.new.self c.delete-result.result c.in-Delete.is refl (λ m. refl) (search rules) c.delete-result.ensures.edits

pub returns-in-Mark : goal.returns-in-Mark
returns-in-Mark g c kind z = whole_edit g.A.Measure.means g.S.Store.contents c.args.slots.now c.args.slots.now c.args.marks.now c.mark-result.new.marks c.args.store.now c.args.store.now z c.args.whole c.mark-result.new.self c.mark-result.result c.in-Mark.is refl (λ m. refl) (search rules) (unlent g.A.Measure.means g.S.Store.contents c.args.store.now (c.mark-result.ensures.edits (g.S.Store.contents c.args.store.now)))

pub returns-in-Ok : goal.returns-in-Ok
returns-in-Ok g c kind z = whole_cut g.A.Measure.means g.S.Store.contents c.args.slots.now c.cut.new.slots c.args.marks.now c.cut.new.marks c.args.store.now c.cut.new.store z c.args.whole c.in-Ok.held c.in-Cut.is refl (λ m. refl) c.in-Ok.ensures.edits

pub returns-in-Err : goal.returns-in-Err
returns-in-Err g c kind z = whole_uncut g.A.Measure.means g.S.Store.contents c.args.slots.now c.cut.new.slots c.args.marks.now c.cut.new.marks c.args.store.now c.cut.new.store z c.args.whole c.in-Err.field-0.text c.in-Err.field-0.fault c.in-Cut.is refl (λ m. refl) c.in-Err.ensures.edits

pub returns-in_default : goal.returns-in_default
returns-in_default g c kind z =
    not_allowed g.A.Measure.means g.S.Store.contents _ _ (λ m sp. whole_rest c.args.call c.in_default.not-Insert c.in_default.not-Delete c.in_default.not-Mark c.in_default.not-Cut kind m (no_clip_lem g.A.Measure.means g.S.Store.contents c.args.whole c.args.slots.now c.args.marks.now c.args.store.now z m sp))
