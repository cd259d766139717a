pub mod NowTrees
pub mod NameLemmas
pub mod PlaceLemmas
pub mod AssignedLemmas
pub mod CountLemmas
pub mod UnitLemmas
pub mod SiteLemmas
pub mod DigitLemmas
