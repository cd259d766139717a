pub mod Called
pub mod Heads
pub mod Keyed
pub mod Modes
pub mod Roots
pub mod Trying
