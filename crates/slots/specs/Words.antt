-- The types of the code, under one roof.
use Rattle.std.specs.Prelude.{ℕ}
use Rattle.std.specs.declared.option.Option.{Option}
pub use Rattle.slots.specs.declared.records.Unsound.{Unsound}
pub use Rattle.slots.specs.declared.records.Digit.{Digit}
pub use Rattle.slots.specs.declared.records.Digit.TheVariants.{One, Two, Three, Four}
pub use Rattle.slots.specs.declared.records.Tree.{Tree}
pub use Rattle.slots.specs.declared.records.Tree.TheVariants.{Empty, Single, Deep}
pub use Rattle.slots.specs.declared.records.Record.{Record}
pub use Rattle.slots.specs.declared.records.Record.TheVariants.{Free, Leaf, Node2, Node3, Level}
pub use Rattle.slots.specs.declared.records.Side.{Side}
pub use Rattle.slots.specs.declared.records.Side.TheVariants.{Front, Back}
pub use Rattle.slots.specs.declared.records.Grown.{Grown}
pub use Rattle.slots.specs.declared.records.Grown.TheVariants.{Room, Over}
pub use Rattle.slots.specs.declared.records.Spine.{Spine}
pub use Rattle.slots.specs.declared.records.Peel.{Peel}

abbrev pub unsound : Unsound
unsound = record {}

-- the next slot of a chain, if there is one
abbrev pub Link : Type 0
Link = Option ℕ
