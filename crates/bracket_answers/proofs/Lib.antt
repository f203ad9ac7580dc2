pub mod Spotting
pub mod Openings
pub mod Heldings
pub mod Closings
pub mod Pairing
