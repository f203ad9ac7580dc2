pub mod Numbers
pub mod Reading
pub mod Summing
pub mod RowValues
pub mod RowSteps
pub mod States
pub mod RowJoins
