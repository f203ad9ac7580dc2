-- The bytes that pairs of hexadecimal digits stand for.
use Rattle.std.specs.Prelude.{ℕ, ◌+◌, ◌*◌, List, map, slice_index_or}
use Rattle.std.specs.Option.{unwrap_or}
use Rattle.plain.specs.Script.{nibble}
use Rattle.lines.specs.declared.hex.Hex.{Hex}

abbrev pub digit_value_of : ℕ → ℕ
digit_value_of b = unwrap_or (nibble b) 0

abbrev pub pair_value : List ℕ → ℕ
pair_value p = digit_value_of (slice_index_or p 0 0) * 16 + digit_value_of (slice_index_or p 1 0)

abbrev pub bytes_of : Hex → List ℕ
bytes_of h = map pair_value h.pairs.now
