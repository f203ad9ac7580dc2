-- The words of slots and lists, under one roof.
pub use Rattle.slots.specs.declared.records.Unsound.{Unsound}
pub use Rattle.slots.specs.declared.records.Digit.{Digit}
pub use Rattle.slots.specs.declared.records.Digit.TheVariants.{One, Two, Three, Four}
pub use Rattle.slots.specs.declared.records.Tree.{Tree}
pub use Rattle.slots.specs.declared.records.Tree.TheVariants.{Empty, Single, Deep}
pub use Rattle.slots.specs.declared.records.Record.{Record}
pub use Rattle.slots.specs.declared.records.Record.TheVariants.{Free, Leaf, Node2, Node3, Level}
pub use Rattle.slots.specs.declared.records.Side.{Side}
pub use Rattle.slots.specs.declared.records.Side.TheVariants.{Front, Back}
pub use Rattle.slots.specs.declared.records.Grown.{Grown}
pub use Rattle.slots.specs.declared.records.Grown.TheVariants.{Room, Over}
pub use Rattle.slots.specs.declared.records.Spine.{Spine}
pub use Rattle.slots.specs.declared.records.Peel.{Peel}
pub use Rattle.slots.specs.Words.{unsound, Link}
