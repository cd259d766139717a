pub mod CallLemmas
pub mod GoalLemmas
pub mod RuleLemmas
pub mod BodyLemmas
pub mod NameGoals
pub mod NameRules
pub mod RestExamples
pub mod TraceLemmas
pub mod CostLemmas
pub mod KnownLemmas
pub mod PlanExamples
mod WorkLemmas
mod WorkExamples
mod GroupLemmas
mod ExpandedLemmas
