pub mod Variables
pub mod Expanded
pub mod Tree
pub mod Block
pub mod Sound
pub mod Laws
