pub mod Field
pub mod Place
pub mod Quadratic
pub mod TestPoint
pub mod Laws
pub mod Numbers
