pub mod Groups
pub mod Patterns
pub mod Laws
pub mod GroupTests
