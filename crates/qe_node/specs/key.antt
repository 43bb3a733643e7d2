-- The key of a node, its equality as a test, and what it feeds a hasher.
pub mod Code
pub mod Equal
