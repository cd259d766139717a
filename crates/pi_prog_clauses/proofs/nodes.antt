pub mod BelowLemmas
pub mod ExpFormLemmas
pub mod FormLemmas
pub mod WalkLemmas
