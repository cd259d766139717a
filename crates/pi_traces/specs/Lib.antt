pub mod Control
pub mod Depth
pub mod Related
pub mod Trace
pub mod Laws
