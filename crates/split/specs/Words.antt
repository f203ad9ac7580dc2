-- The words of slots and lists, under one roof.
pub use Rattle.slots.specs.declared.records.Unsound.{Unsound}
pub use Rattle.slots.specs.declared.records.Digit.{Digit}
pub use Rattle.slots.specs.declared.records.Tree.{Tree}
pub use Rattle.slots.specs.declared.records.Tree.TheVariants.{Empty, Single, Deep}
pub use Rattle.slots.specs.declared.records.Record.{Record}
pub use Rattle.slots.specs.declared.records.Record.TheVariants.{Free, Leaf}
pub use Rattle.slots.specs.declared.records.Side.{Side}
pub use Rattle.slots.specs.declared.records.Side.TheVariants.{Front, Back}
pub use Rattle.slots.specs.declared.records.Spine.{Spine}
pub use Rattle.seek.specs.declared.digits.Cut.{Cut}
pub use Rattle.slots.specs.Words.{Link}
