pub mod Stored
pub mod Asked
pub mod Fronts
