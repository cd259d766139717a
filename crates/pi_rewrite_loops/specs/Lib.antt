pub mod Parts
pub mod Helpers
pub mod Heads
pub mod Turns
