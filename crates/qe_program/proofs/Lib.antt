pub mod Printed
pub mod Replied
pub mod Caused
pub mod Told
mod Requested
mod Summarized
