pub mod Keys
pub mod Readings
pub mod EdgePaths
pub mod WordPaths
pub mod TokenPaths
