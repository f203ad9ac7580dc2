pub mod PartRead
pub mod RowParts
pub mod MarkMoves
pub mod CutLeaves
pub mod Bench
pub mod FitMore
pub mod RowCuts
