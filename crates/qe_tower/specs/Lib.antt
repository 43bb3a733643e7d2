pub mod Fraction
pub mod Element
pub mod Sign
pub mod Number
pub mod Point
pub mod Map
pub mod Laws
pub mod Examples
