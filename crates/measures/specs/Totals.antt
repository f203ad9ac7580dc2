-- How many bytes a list has, and how many line feeds.
use Rattle.std.specs.Prelude.{ℕ, List, length}
use Rattle.plain.specs.Lists.{count}
use Rattle.plain.specs.Tokens.{feed}
use Rattle.measures.specs.declared.totals.Totals.{Totals}

abbrev pub totals : List ℕ → Totals
totals bs = record { bytes = length bs; feeds = count feed bs }
