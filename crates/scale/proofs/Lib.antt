pub mod Below
pub mod Bits
pub mod Forms
pub mod Levels
pub mod Consequences
