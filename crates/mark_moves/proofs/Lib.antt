pub mod MarkDesk
pub mod MarkParts
pub mod MarkSteps
pub mod MarkGrowth
pub mod MarkAdding
pub mod MarkDrops
