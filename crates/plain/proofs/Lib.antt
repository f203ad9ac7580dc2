pub mod Spelling
pub mod Marking
pub mod Asking
pub mod Keeping
pub mod Opened
pub mod Reading
pub mod Pairing
