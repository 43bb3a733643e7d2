pub mod Keys
pub mod Steps
pub mod Search
pub mod Answer
pub mod Found
pub mod Laws
