pub mod Words
pub mod Ghost
pub mod Sides
pub mod Values
pub mod Holds
pub mod Post
pub mod Theorems
