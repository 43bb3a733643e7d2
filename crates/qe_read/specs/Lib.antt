pub mod Names
pub mod Value
pub mod Formula
pub mod FreeNames
pub mod Fault
pub mod Input
pub mod Numbered
