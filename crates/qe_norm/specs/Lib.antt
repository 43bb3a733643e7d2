pub mod Polarity
pub mod NormalForm
pub mod Numbering
pub mod Blocks
pub mod Walk
pub mod Prenex
