pub mod Lost
pub mod Woken
