use Rattle.std.proofs.Common.{rules, tests, ◌≡◌, ◌%◌, length, sym, ap, ◌∙◌, arith}
use Rattle.std.proofs.lemmas.Bool.Decides.{nat_tests}
use Rattle.std.proofs.lemmas.Iterator.{YieldsList-from_slice}
use Rattle.std.proofs.lemmas.Iterator.Search.{all_from_yields_List}
use Rattle.std.specs.Option.{option_map}
use Rattle.lines.specs.Bytes.{bytes_of}
use Rattle.lines.proofs.Pairs.{is_digit, hexes_odd, read_pairs}
use Rattle.lines.proofs.hex.Hex.read.Goals as goal

pub returns-then-not-is_empty : goal.returns-then-not-is_empty
returns-then-not-is_empty c = sym (hexes_odd c.args.field.now (λ z. grind (arith, nat_tests)))

pub returns : goal.returns
returns c =
    let t = c.args.field.now in
    let even : length t % 2 ≡ 0 = grind (arith, nat_tests) in
    let digits = all_from_yields_List is_digit _ _ c.all-all_digits.result c.all-all_digits.ensures.ran (YieldsList-from_slice t cc) (λ x b q k. search (rules, tests)) in
    ap (option_map bytes_of) c.then_some.ensures ∙ read_pairs _ c.all-all_digits.result t even c.as_chunks.ensures.front digits
