pub mod Calls
pub mod Claim
pub mod Steps
pub mod Runs
