pub mod Simplified
pub mod Meaning
pub mod Shape
pub mod Alike
pub mod Laws
