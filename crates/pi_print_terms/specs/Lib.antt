pub mod Ahead
pub mod Numbers
pub mod Tasks
pub mod Roots
pub mod Answers
pub mod PrintAnswer
