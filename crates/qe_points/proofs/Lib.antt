pub mod Choosing
pub mod Listing
pub mod Gathering
pub mod Members
pub mod OnLine
pub mod Roots
pub mod Enough
pub mod Sound
