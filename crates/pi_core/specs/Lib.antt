pub mod AnswerVariables
pub mod CoreTree
pub mod GoalCells
pub mod GoalTree
