pub mod Moves
pub mod Spots
pub mod Ends
pub mod Deleting
pub mod Cutting
