pub mod AfterLemmas
pub mod RootLemmas
pub mod OperandNodes
pub mod CollectionLemmas
pub mod BelowLemmas
pub mod OperandTurns
pub mod LoopLemmas
mod RelationLemmas
pub mod TruthNodes
mod JoinedLemmas
mod TruthTurns
mod GoalNodes
mod ItemLemmas
mod GoalLemmas
