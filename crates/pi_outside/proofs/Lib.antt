pub mod Faults
pub mod Given
pub mod Held
pub mod Input
pub mod InputRuns
pub mod Kept
mod LineLemmas
pub mod Memory
mod Pieces
pub mod ReadRuns
pub mod Taken
mod Turns
pub mod Went
pub mod WriteRuns
