pub mod Single
pub mod Parting
