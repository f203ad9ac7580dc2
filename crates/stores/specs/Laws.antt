-- Each kind of store is lawful.
use Rattle.std.specs.Prelude.{ℕ, List}
use Rattle.std.proofs.Common.{arith, length-take, length-append}
use Rattle.std.proofs.lemmas.List.{length-replicate}
use Rattle.stores.specs.Stores.{Sized, Lawful}
use Rattle.stores.specs.Kinds.{counted_contents, counting, text_bytes, text_capacity, space_bytes, space_capacity, repeated_bytes, repeated_capacity, joined_contents}
use Rattle.stores.specs.declared.Store.{Ghosts}
use Rattle.stores.specs.declared.original.Text.{Text}
use Rattle.stores.specs.declared.buffer.Space.{Space}
use Rattle.stores.specs.declared.filled.Repeated.{Repeated}

pub counted_lawful : {B : Type 0} (bytes : B → List ℕ) (capacity : B → ℕ) → ((b : B) → Sized (bytes b) (capacity b)) → Lawful (counted_contents bytes capacity)
counted_lawful bytes capacity sized = record {
  within = λ s. (sized s.held).within;
  small = λ s. (sized s.held).small;
  stops = λ s. omega arith;
}

pub text_sized : (b : Text) → Sized (text_bytes b) (text_capacity b)
unfolding counting
text_sized b = record { within = omega arith; small = simp length-take (omega arith) }

pub space_sized : (b : Space) → Sized (space_bytes b) (space_capacity b)
space_sized b = record { within = simp length-take (omega arith); small = omega arith }

pub repeated_sized : (b : Repeated) → Sized (repeated_bytes b) (repeated_capacity b)
repeated_sized b = record { within = omega arith; small = simp length-replicate (omega arith) }

pub joined_lawful : {F B : Type 0} (f : Ghosts F) (b : Ghosts B) → Lawful b.contents → Lawful (joined_contents {f = f} {b = b})
joined_lawful f b law = record {
  within = λ s. let h = law.within s.back in simp length-append (omega arith);
  small = λ s. s.fits;
  stops = λ s. omega arith;
}
