pub mod Words
pub mod Places
pub mod Post
pub mod Beyond
