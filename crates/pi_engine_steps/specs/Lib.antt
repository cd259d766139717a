pub mod Done
pub mod Rounds
pub mod Facts
