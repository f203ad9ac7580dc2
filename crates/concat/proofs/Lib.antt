pub mod Feeding
pub mod Extending
pub mod Melting
