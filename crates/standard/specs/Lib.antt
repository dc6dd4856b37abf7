pub mod Letters
pub mod Standards
pub mod Reference
pub mod Spellings
