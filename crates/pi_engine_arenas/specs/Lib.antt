pub mod Arenas
pub mod Blocks
pub mod Frames
pub mod Runs
