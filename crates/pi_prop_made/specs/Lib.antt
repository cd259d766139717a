pub mod Signed
pub mod Kept
pub mod Changes
pub mod Steps
pub mod Making
pub mod ToZero
pub mod Items
pub mod Finished
