pub mod AheadLemmas
pub mod NumberLemmas
pub mod TaskLemmas
pub mod CharacterLemmas
pub mod WritingLemmas
pub mod PrinterLemmas
pub mod AnswerLemmas
