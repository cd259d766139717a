pub mod Begins
pub mod Turns
pub mod Seen
pub mod Spends
pub mod Inside
pub mod Runs
pub mod Needs
pub mod Happens
