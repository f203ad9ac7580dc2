use Rattle.std.proofs.Common.{refl}
use Rattle.calls.proofs.CallKinds.{held_rest}
use Rattle.calls.proofs.Made.{not_allowed}
use Rattle.calls.proofs.TextEdits.{a_clip, unlent, held_done, held_still}
use Rattle.calls.proofs.editing.edit_held.Goals as goal

pub returns-in-Ok : goal.returns-in-Ok
returns-in-Ok g c kind z = held_done g.A.Measure.means g.S.Store.contents c.args.slots.now c.paste.new.slots c.args.marks.now c.paste.new.marks c.args.store.now c.paste.new.store z c.args.held c.in-Ok.whole c.in-Paste.is refl (λ m. refl) c.in-Ok.ensures.edits

pub returns-in-Err : goal.returns-in-Err
returns-in-Err g c kind z = held_still g.A.Measure.means g.S.Store.contents c.args.slots.now c.paste.new.slots c.args.marks.now c.paste.new.marks c.args.store.now c.paste.new.store z c.args.held c.in-Err.field-0.text c.in-Err.field-0.fault c.in-Paste.is refl (λ m. refl) c.in-Err.ensures.edits

pub returns-in-Discard : goal.returns-in-Discard
returns-in-Discard g c kind z = held_done g.A.Measure.means g.S.Store.contents c.args.slots.now c.discard.new.slots c.args.marks.now c.args.marks.now c.args.store.now c.args.store.now z c.args.held c.discard.result c.in-Discard.is refl (λ m. refl) (unlent g.A.Measure.means g.S.Store.contents c.args.store.now (c.discard.ensures.edits c.args.marks.now (g.S.Store.contents c.args.store.now)))

pub returns-in_default : goal.returns-in_default
returns-in_default g c kind z =
    not_allowed g.A.Measure.means g.S.Store.contents _ _ (λ m sp. held_rest c.args.call c.in_default.not-Paste c.in_default.not-Discard kind m (a_clip g.A.Measure.means g.S.Store.contents c.args.held c.args.slots.now c.args.marks.now c.args.store.now z m sp))
