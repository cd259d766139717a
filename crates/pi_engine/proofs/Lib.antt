pub mod LaidHere
pub mod LaidCode
pub mod RunBegins
pub mod SpendLemmas
mod TurnsGo
mod DueTurns
mod LoadRuns
pub mod NextTurns
pub mod RunsTold
pub mod CountLemmas
mod AddsExamples
mod NamedLaid
