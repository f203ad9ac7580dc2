use Rattle.calls.proofs.TextEdits.{of_text}
use Rattle.calls.proofs.editing.edit.Goals as goal

pub returns-in-Whole : goal.returns-in-Whole
returns-in-Whole g c kind z = of_text g.A.Measure.means g.S.Store.contents c.in-Whole.is (c.edit_whole.ensures kind z)

pub returns-in-Held : goal.returns-in-Held
returns-in-Held g c kind z = of_text g.A.Measure.means g.S.Store.contents c.in-Held.is (c.edit_held.ensures kind z)
