pub mod Names
pub mod Posts
pub mod Kept
pub mod Flattened
pub mod Sides
pub mod Done
pub mod Named
pub mod Functions
