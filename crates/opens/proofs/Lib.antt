pub mod Placing
pub mod Judging
pub mod Leftward
