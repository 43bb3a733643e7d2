pub mod Stops
pub mod Value
pub mod Shape
pub mod SignForm
pub mod Laws
pub mod Holds
pub mod Atoms
pub mod Occurs
