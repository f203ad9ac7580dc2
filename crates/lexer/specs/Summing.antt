-- A whole text in numbers, from its totals and row 0 of its tokens.
use Rattle.std.specs.Prelude.{◌+◌, min}
use Rattle.plain.specs.declared.answers.Summary.{Summary}
use Rattle.measures.specs.declared.totals.Totals.{Totals}
use Rattle.lexer.specs.declared.tokens.TokenRow.{TokenRow}

abbrev pub summed : Totals → TokenRow → Summary
summed v r = record {
  bytes = v.bytes;
  lines = min (v.feeds + 1) 4294967295;
  tokens = r.tokens;
  strays = r.strays;
  unmet = r.unmet;
}
