pub mod Folds
pub mod LineLaws
pub mod SideLives
