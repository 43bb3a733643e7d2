pub mod Ring
pub mod Sign
pub mod Ordered
pub mod Expression
