pub mod RowTurns
pub mod TextPlaces
pub mod PartPaths
pub mod Tellings
