mod BallLemmas
pub mod FaultLemmas
pub mod ItemLemmas
pub mod RangeLemmas
pub mod SortLemmas
pub mod RowLemmas
pub mod BuiltInLemmas
pub mod Worked
pub mod IntegerExamples
pub mod ComparingExamples
pub mod KindExamples
pub mod CollectionExamples
pub mod InnerExamples
pub mod SortingExamples
pub mod MakingExamples
pub mod TextExamples
mod BitLaws
mod BitLemmas
mod PowerLemmas
mod ProductLemmas
mod QuotientAnswers
mod QuotientLaws
mod QuotientLemmas
mod WidthLemmas
mod ShiftLemmas
