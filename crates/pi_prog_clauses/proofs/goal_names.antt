pub mod GoalNameLemmas
