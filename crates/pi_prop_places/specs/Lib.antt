pub mod Changes
pub mod Terms
pub mod Roots
pub mod Reads
