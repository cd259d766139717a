pub mod JudgeLemmas
pub mod JudgedLemmas
pub mod VerdictLemmas
