-- The types of the code, under one roof.
pub use Rattle.slots.specs.Words.{unsound}
pub use Rattle.slots.specs.declared.records.Unsound.{Unsound}
pub use Rattle.slots.specs.Words.{Link}
pub use Rattle.slots.specs.declared.records.Digit.{Digit}
pub use Rattle.slots.specs.declared.records.Digit.TheVariants.{One, Two, Three, Four}
pub use Rattle.slots.specs.declared.records.Tree.{Tree}
pub use Rattle.slots.specs.declared.records.Tree.TheVariants.{Empty, Single, Deep}
pub use Rattle.slots.specs.declared.records.Record.{Record}
pub use Rattle.slots.specs.declared.records.Record.TheVariants.{Free, Leaf, Node2, Node3, Level}
