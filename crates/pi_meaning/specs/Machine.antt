-- The machine as plain data.
pub mod NamedGoals
pub mod Budget
pub mod Configuration
pub mod Remaining
pub mod Filled
pub mod Step
pub mod Shape
pub mod Laws
pub mod Built
pub mod Weight
pub mod Leads
pub mod Next
