pub mod Soundness
pub mod Alone
pub mod Roots
pub mod Bridge
pub mod Paths
pub mod Found
pub mod Ended
pub mod Telling
