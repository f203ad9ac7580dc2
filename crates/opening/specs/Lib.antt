pub mod Filled
pub mod Opened
