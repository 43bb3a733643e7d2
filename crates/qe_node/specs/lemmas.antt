-- Lemmas that members of types and traits cite. Nothing here is read as a definition.
pub mod Code
pub mod Equal
pub mod Piece
