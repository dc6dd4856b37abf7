pub mod State
pub mod Ties
