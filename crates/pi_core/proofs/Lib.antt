pub mod GoalCells
pub mod GoalPlaces
