pub mod Machine
pub mod Rows
pub mod Shown
pub mod Stretch
pub mod Trees
pub mod Turns
