pub mod BuildLemmas
mod ClosedLemmas
pub mod CollectionLemmas
mod EqualityLemmas
mod FindLemmas
mod FunctionTables
mod KindLemmas
mod NamedLemmas
mod NamesLemmas
mod NamingLemmas
mod OperationLemmas
pub mod PartLemmas
mod PredicateTables
pub mod ResultLemmas
pub mod RowLemmas
pub mod TotalLemmas
pub mod WalkLemmas
