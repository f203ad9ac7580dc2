pub mod Listed
pub mod Replied
