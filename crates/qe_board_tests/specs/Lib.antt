pub mod Spots
pub mod Laws
pub mod Workers
