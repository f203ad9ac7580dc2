pub mod Counting
pub mod PieceChecks
pub mod TextParts
pub mod MarkParts
pub mod WholeMemory
pub mod Fronts
pub mod MachineTold
