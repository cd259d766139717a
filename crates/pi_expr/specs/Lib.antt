pub mod Faults
pub mod Sizes
pub mod States
pub mod Crowds
