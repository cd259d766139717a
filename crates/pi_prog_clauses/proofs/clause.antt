pub mod ClauseLemmas
pub mod ExpTreeLemmas
