mod AdjacentClauses
pub mod ApartLemmas
pub mod BuiltCallLemmas
mod BuiltCalls
mod BuiltGoals
pub mod BuiltNames
pub mod BuiltPartLemmas
mod BuiltTerms
pub mod CallLemmas
mod CallPlaces
pub mod ClauseLemmas
pub mod EachLemmas
pub mod FaultlessGoals
pub mod FaultlessParts
pub mod FaultlessPrograms
pub mod FineGoals
pub mod FormLemmas
pub mod FoundLemmas
mod FreeHeads
pub mod GivenNames
pub mod GoalLemmas
pub mod GoalNames
pub mod GoodCalls
pub mod GoodGoals
pub mod GoodHelpers
pub mod GoodTexts
pub mod GoodUnits
pub mod GoodValues
pub mod GroupLemmas
pub mod HelperSound
mod IndexedFacts
pub mod IteratorHelpers
mod KnownCalls
mod KnownNames
pub mod LoopGoals
pub mod LoopHelpers
pub mod LoopTrees
pub mod NameLemmas
mod NamedPatterns
pub mod NodeLemmas
pub mod PartLemmas
pub mod PlainLemmas
mod PlainNames
pub mod PreludeBuilt
mod PreludeParts
pub mod ProgramLemmas
pub mod QueryLemmas
pub mod RankLemmas
mod ReadPlaces
pub mod RuleLemmas
pub mod RunLemmas
mod ShownKeys
pub mod SlotRoom
pub mod SoundGoals
pub mod UnitLemmas
