mod Distinct
pub mod Kept
pub mod Named
pub mod Numbers
mod Parts
mod Powers
pub mod Ranks
mod Spelled
mod Texts
mod Unique
pub mod Valued
pub mod Variables
pub mod Words
