pub mod Scales
pub mod Question
pub mod Reading
pub mod Texts
