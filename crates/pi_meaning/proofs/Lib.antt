pub mod Shared
pub mod CoreMeaning
pub mod Machine
pub mod OverNames
