pub mod Fault
pub mod Substituted
pub mod Stop
pub mod Left
