pub mod EntryLemmas
pub mod TableLemmas
pub mod BackLemmas
pub mod ChangeLemmas
pub mod SinceLemmas
pub mod HistoryLemmas
pub mod NotedLemmas
mod Lists
mod Memory
mod Sharing
mod Values
mod Walks
mod WordsLemmas
