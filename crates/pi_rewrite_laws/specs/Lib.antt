pub mod Levels
pub mod Roots
pub mod Within
pub mod Laws
