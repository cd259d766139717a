pub mod Allowed
pub mod May
