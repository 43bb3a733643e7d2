mod Runs
mod Scanned
mod Spelled
pub mod Tokenized
mod Values
