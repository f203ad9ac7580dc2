pub mod Moves
pub mod Tries
pub mod Finding
pub mod Onward
