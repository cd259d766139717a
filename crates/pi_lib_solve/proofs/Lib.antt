pub mod AskLemmas
pub mod ChoiceLemmas
pub mod ConfineLemmas
pub mod NarrowLemmas
pub mod PickLemmas
pub mod SeekLemmas
pub mod ValueLemmas
