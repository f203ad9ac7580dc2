pub mod Closing
pub mod Performing
