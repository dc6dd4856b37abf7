-- What the contracts cite, in reading order.
pub mod Laws
pub mod Rules
pub mod OneOfTwo
pub mod Totals
pub mod Words
pub mod Texts
pub mod Sides
pub mod Naming
