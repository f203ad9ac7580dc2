use Rattle.std.proofs.Common.{◌≡◌, ◌+◌, ◌-◌, ◌≤◌, ◌++◌, map, length, drop, vec_items, vec_len, vec_capacity}
use Rattle.lines.specs.Bytes.{pair_value}
use Rattle.lines.proofs.hex.Hex.decode_into.Given as goal

abbrev pub invariant-loop-high : goal.invariant-loop-high
invariant-loop-high l =
    (vec_items l.out ++ map pair_value (drop l.high-index l.self.pairs.now) ≡ vec_items l.initial.out ++ map pair_value l.self.pairs.now)
    × (vec_len l.out + (length l.self.pairs.now - l.high-index) ≤ vec_capacity l.out)
