pub mod Asks
pub mod Picked
pub mod Sought
