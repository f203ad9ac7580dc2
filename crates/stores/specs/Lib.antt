pub mod Stores
pub mod Kinds
pub mod Laws
pub mod Joining
