pub mod Options
pub mod Laws
pub mod OptionTests
