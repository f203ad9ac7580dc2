pub mod Edges
pub mod Cleaving
