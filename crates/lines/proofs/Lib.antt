mod Appending
mod Pairs
pub mod Parting
mod Printed
mod Records
