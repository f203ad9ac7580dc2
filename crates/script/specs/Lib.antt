pub mod Engines
pub mod Early
pub mod Input
