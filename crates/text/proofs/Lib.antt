pub mod Cuts
mod Scan
