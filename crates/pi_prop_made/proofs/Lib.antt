pub mod KeptLemmas
pub mod TermLemmas
pub mod FitLemmas
pub mod AddLemmas
pub mod JudgedLemmas
pub mod SumLemmas
pub mod WrittenLemmas
pub mod MakingLemmas
pub mod SideLemmas
pub mod ProductLemmas
mod StandingLemmas
mod ItemLemmas
