-- The number of a refusal, and the layer that refused.
use Rattle.std.specs.Prelude.{ℕ}
use Rattle.plain.specs.declared.faults.Layer.{Layer}
use Rattle.plain.specs.declared.faults.Layer.TheVariants as layer
use Rattle.plain.specs.declared.faults.TextFault.{TextFault}
use Rattle.plain.specs.declared.faults.TextFault.TheVariants.{Slots, Pieces, Length, Offset, Store, Marks, Unsound}
use Rattle.plain.specs.declared.faults.CallFault.{CallFault}
use Rattle.plain.specs.declared.faults.CallFault.TheVariants.{NotAllowed, Text}
use Rattle.plain.specs.declared.faults.LineFault.{LineFault}
use Rattle.plain.specs.declared.faults.LineFault.TheVariants.{Unreadable, Call}

abbrev pub text_number : TextFault → ℕ
text_number Slots = 1
text_number Pieces = 2
text_number Length = 3
text_number Offset = 4
text_number (Store full) = 5
text_number Marks = 6
text_number Unsound = 10

abbrev pub text_layer : TextFault → Layer
text_layer Slots = layer.Text
text_layer Pieces = layer.Text
text_layer Length = layer.Text
text_layer Offset = layer.Text
text_layer (Store full) = layer.Store
text_layer Marks = layer.Text
text_layer Unsound = layer.Text

abbrev pub call_number : CallFault → ℕ
call_number NotAllowed = 9
call_number (Text fault) = text_number fault

abbrev pub call_layer : CallFault → Layer
call_layer NotAllowed = layer.Script
call_layer (Text fault) = text_layer fault

abbrev pub line_number : LineFault → ℕ
line_number Unreadable = 8
line_number (Call fault) = call_number fault

abbrev pub line_layer : LineFault → Layer
line_layer Unreadable = layer.Script
line_layer (Call fault) = call_layer fault
