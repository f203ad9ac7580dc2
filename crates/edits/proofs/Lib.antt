pub mod Falling
pub mod Counting
pub mod Doorsteps
pub mod PartingAt
pub mod Supplies
pub mod PutText
pub mod PasteText
