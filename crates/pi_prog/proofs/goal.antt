pub mod GoalLemmas
