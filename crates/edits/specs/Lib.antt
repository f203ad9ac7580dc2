pub mod Edges
pub mod Counts
pub mod Doors
pub mod Parting
pub mod Inserting
pub mod Pasting
