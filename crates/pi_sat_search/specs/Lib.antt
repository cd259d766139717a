pub mod Assigned
pub mod LemmaStates
pub mod Nodes
pub mod Steps
