pub mod Choice
pub mod Candidates
pub mod Guard
pub mod Guarded
pub mod Complete
