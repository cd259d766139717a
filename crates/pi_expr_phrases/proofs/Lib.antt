pub mod StretchLemmas
pub mod TreeLemmas
