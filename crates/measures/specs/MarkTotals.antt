-- Marks that each lie a gap after the one before them, the first after offset 0.
use Rattle.std.specs.Prelude.{ℕ, ◌+◌, List, [], ◌∷◌, length}
use Rattle.plain.specs.Marks.{mark_at}
use Rattle.plain.specs.declared.answers.Mark.{Mark}
use Rattle.measures.specs.declared.mark_totals.MarkRow.{MarkRow}
use Rattle.measures.specs.declared.mark_totals.MarkTotals.{MarkTotals}

abbrev pub gaps : List MarkRow → ℕ
gaps [] = 0
gaps (m ∷ ms) = m.gap + gaps ms

abbrev pub totals_of_marks : List MarkRow → MarkTotals
totals_of_marks ms = record { gaps = gaps ms; count = length ms }

-- the marks at their offsets, counted on from o
abbrev pub placed : ℕ → List MarkRow → List Mark
placed o [] = []
placed o (m ∷ ms) = mark_at (o + m.gap) m.label ∷ placed (o + m.gap) ms

-- the offset of the last mark, or o if there is none
abbrev pub last_offset_of : ℕ → List Mark → ℕ
last_offset_of o [] = o
last_offset_of o (m ∷ ms) = last_offset_of m.offset ms
