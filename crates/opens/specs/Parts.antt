-- A part of a text, read from where it begins.
use Rattle.std.specs.Prelude.{ℕ, ◌+◌, min, Some, None, Ok, Err, Option, Result}
use Rattle.lexer.specs.Numbers.{number_of}
use Rattle.lexer.specs.Reading.{row_at}
use Rattle.slots.specs.Words.{unsound}
use Rattle.slots.specs.declared.records.Unsound.{Unsound}
use Rattle.pieces.specs.Sound.{TextValue}
use Rattle.opens.specs.declared.parts.Start.{Start}
use Rattle.opens.specs.declared.parts.Part.{Part}
use Rattle.opens.specs.declared.parts.Back.{Back}
use Rattle.opens.specs.declared.parts.Back.TheVariants.{At, Before}

abbrev pub part_from_slot : {A : Type 0} → TextValue A → Start → Part
part_from_slot v x =
    let r = row_at v.left.right (number_of x.state) in record {
      end = record { offset = min (x.offset + v.left.left.bytes) 4294967295; state = r.state };
      strays = r.strays;
      unmet = r.unmet;
    }

-- only an open that was found
abbrev pub found_only : Result Back Unsound → Result Back Unsound
found_only (Ok (At h)) = Ok (At h)
found_only (Ok (Before k)) = Err unsound
found_only (Err e) = Err e

-- where the open is of a rank in the part, only an open that was found
abbrev pub held_by : Option ℕ → Result Back Unsound → Result Back Unsound
held_by None r = r
held_by (Some n) r = found_only r
