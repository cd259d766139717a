pub mod AnswerLemmas
pub mod BelowLemmas
pub mod CutLemmas
pub mod LastLemmas
pub mod RelatedLemmas
pub mod TraceLemmas
