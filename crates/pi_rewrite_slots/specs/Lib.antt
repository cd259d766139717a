pub mod Indexed
pub mod Steps
pub mod ItemCells
pub mod Branches
pub mod ReadAs
