pub mod Counted
pub mod Scanning
