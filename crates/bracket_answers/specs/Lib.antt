pub mod Spots
pub mod Backward
pub mod Forward
