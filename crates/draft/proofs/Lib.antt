pub mod Rising
pub mod Edited
pub mod Brought
pub mod Lent
