-- What the four kinds of store mean. The limits hold of every value, also of those that no call makes.
use Rattle.std.specs.Prelude.{ℕ, ◌+◌, min, List, ◌++◌, length, take, replicate}
use Rattle.stores.specs.Stores.{largest, summed, Contents}
use Rattle.stores.specs.declared.counted.Counted.{Counted}
use Rattle.stores.specs.declared.original.Text.{Text}
use Rattle.stores.specs.declared.buffer.Space.{Space}
use Rattle.stores.specs.declared.filled.Repeated.{Repeated}
use Rattle.stores.specs.declared.Store.{Ghosts}
use Rattle.stores.specs.declared.joined.Joined.{Joined}

-- a store that counts the reads of what it holds, by what that means
abbrev pub counted_contents : {B : Type 0} → (B → List ℕ) → (B → ℕ) → Counted B → Contents
counted_contents bytes capacity s = record { bytes = bytes s.held; capacity = capacity s.held; reads = summed s.reads 0 }

-- of a lent slice only the first bytes count
unfoldable pub counting : List ℕ → List ℕ
counting slice = take largest slice

abbrev pub text_bytes : Text → List ℕ
text_bytes b = counting b.text.now

abbrev pub text_capacity : Text → ℕ
text_capacity b = length (text_bytes b)

abbrev pub original_contents : Counted Text → Contents
original_contents = counted_contents text_bytes text_capacity

-- the part of a buffer that appends have filled
abbrev pub filled_part : ℕ → List ℕ → List ℕ
filled_part used space = take (min used largest) space

abbrev pub space_bytes : Space → List ℕ
space_bytes b = filled_part b.used b.space.now

abbrev pub space_capacity : Space → ℕ
space_capacity b = min (length b.space.now) largest

abbrev pub buffer_contents : Counted Space → Contents
buffer_contents = counted_contents space_bytes space_capacity

abbrev pub repeated_bytes : Repeated → List ℕ
repeated_bytes b = replicate (min b.length largest) b.byte

abbrev pub repeated_capacity : Repeated → ℕ
repeated_capacity b = length (repeated_bytes b)

abbrev pub filled_contents : Counted Repeated → Contents
filled_contents = counted_contents repeated_bytes repeated_capacity

-- a joined store, by what its front and its back mean
abbrev pub joined_contents : {F B : Type 0} {f : Ghosts F} {b : Ghosts B} → Joined F B f b → Contents
joined_contents {f = f} {b = b} s =
    let front = f.contents s.front in
    let back = b.contents s.back in
    record {
      bytes = front.bytes ++ back.bytes;
      capacity = length front.bytes + back.capacity;
      reads = summed front.reads back.reads;
    }
