pub mod Closed
pub mod Items
pub mod Kinds
pub mod Names
pub mod Ordered
pub mod Relations
pub mod Resolved
