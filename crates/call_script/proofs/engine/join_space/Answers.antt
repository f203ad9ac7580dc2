use Rattle.std.proofs.Common.{length}
use Rattle.stores.specs.Kinds.{original_contents, buffer_contents}
use Rattle.call_script.proofs.Lent.{never_too_large, bytes_joined, capacity_joined}
use Rattle.call_script.proofs.engine.join_space.Goals as goal

pub unreachable-requires : goal.unreachable-requires
unreachable-requires c =
    never_too_large c.args.text.now (original_contents c.new.result).bytes (length c.args.space.now) (buffer_contents c.new-2.result).capacity c.requires.0 c.requires.1
    c.new.ensures.bytes c.new-2.ensures.capacity c.in-Err.ensures.too_large

pub returns : goal.returns
returns c =
    let t = c.args.text.now in
    let b = (original_contents c.new.result).bytes in
    let n = length c.args.space.now in
    let k = (buffer_contents c.new-2.result).capacity in
    record {
      bytes = bytes_joined t b n k c.requires.0 c.requires.1 c.new.ensures.bytes c.new-2.ensures.capacity _ (buffer_contents c.new-2.result).bytes c.in-Ok.ensures.bytes_are c.new-2.ensures.bytes;
      capacity = capacity_joined t b n k c.requires.0 c.requires.1 c.new.ensures.bytes c.new-2.ensures.capacity _ c.in-Ok.ensures.capacity_is;
    }
