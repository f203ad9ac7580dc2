pub mod Words
pub mod Post
