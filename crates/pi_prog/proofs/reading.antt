pub mod BalanceLemmas
pub mod CrowdingLemmas
pub mod PartLemmas
pub mod PlaceLemmas
pub mod ReadingLemmas
pub mod ShapeLemmas
pub mod VariableLemmas
