pub mod ToldStand
pub mod NamesStand
pub mod RetriesStand
pub mod CallsDone
mod GoalsLeave
mod RoundsPost
mod RoundsFound
pub mod TermsCalled
pub mod FactsTried
pub mod FactsKeyed
mod SolveAsked
mod SolveRuns
mod NarrowedStands
