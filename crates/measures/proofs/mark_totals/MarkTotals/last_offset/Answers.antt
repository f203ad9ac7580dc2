use Rattle.std.proofs.Common.{sym, refl, ap, ◌∙◌, zero-add}
use Rattle.measures.specs.MarkTotals.{gaps}
use Rattle.measures.specs.declared.mark_totals.MarkTotals.{MarkTotals}
use Rattle.measures.specs.MarkLaws.{last_offset_lem}
use Rattle.measures.proofs.mark_totals.MarkTotals.last_offset.Goals as goal

pub returns : goal.returns
returns c = record { value = refl; law = λ ms e. ap (λ (v : MarkTotals). v.gaps) e ∙ sym (zero-add (gaps ms)) ∙ last_offset_lem 0 ms }
