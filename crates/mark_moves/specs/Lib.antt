pub mod Parting
pub mod Moved
pub mod Dropping
