pub mod Polynomial
pub mod Formula
pub mod Name
