-- Lemmas that this crate and the crates above it cite.
pub mod Amounts
pub mod Totals
