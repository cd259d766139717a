pub mod Words
pub mod Picks
pub mod Follows
pub mod Beside
pub mod Reads
pub mod OptionLaws
pub mod PickLaws
