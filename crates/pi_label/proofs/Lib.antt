pub mod PickLemmas
pub mod ChoiceLemmas
pub mod WordLemmas
pub mod PlaceLemmas
mod NamedLemmas
