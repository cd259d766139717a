pub mod ExpListLemmas
pub mod GrammarLemmas
pub mod TableLemmas
pub mod WidthLemmas
