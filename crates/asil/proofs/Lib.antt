pub mod Narrow
pub mod Cover
