pub mod Levels
pub mod Pushes
pub mod Shrinking
