-- What a request of the present query comes to, by what the code answers, and how the query is listed then.
use Rattle.std.specs.Prelude.{◌≡◌, ◌<◌, ℕ, ◌+◌, List, [], ◌∷◌, ◌++◌, Option, None, Some, Result, Ok, Err}
use Rattle.pi_outside.specs.Writes.{SinkWrite}
use Rattle.pi_core.specs.CoreTree.{PredTree, QueryTree}
use Rattle.pi_meaning.specs.declared.happening.Budget.{Budget}
use Rattle.pi_meaning.specs.Machine.Budget.{IsWithin}
use Rattle.pi_meaning.specs.Machine.Built.{IsRunnable}
use Rattle.pi_engine.specs.Seen.{MachineView}
use Rattle.pi_engine.specs.declared.machine.Machine.{Machine}
use Rattle.pi_top.specs.declared.manner.Manner.{Manner}
use Rattle.pi_top.specs.declared.runs.QueryRun.{QueryRun}
use Rattle.pi_top.specs.declared.present.Present.{Present as PresentRun}
use Rattle.pi_top.specs.declared.query.Stop.{Stop}
use Rattle.pi_top.specs.Stops.{status_of_stop}
use Rattle.pi_top.specs.QueryWords.{BegunQuery, asked_in, told_query}
use Rattle.pi_top.specs.Running.{IsWritten}
use Rattle.pi_top.specs.Runs.{run_of}
use Rattle.pi_top.specs.Took.{Bounds, bounds_of, bounds_in, Took, took_in}
use Rattle.pi_top.specs.Turn.{EndsAt, IsCutAt}

-- a query may be asked for more answers, with what it has used so far
pub record IsInBudget (may : Bounds) (budget : Budget) : Type 0 where
  pub within : IsWithin budget
  pub its_bounds : bounds_in budget ≡ may

-- where there is one
abbrev pub IsBounded : {S M : Type 0} → Bounds → Option (PresentRun S M) → Type 0
IsBounded may None = Unit {0}
IsBounded may (Some present) = IsInBudget may present.budget

-- so many of its answers were written, by these writes, and more of them are asked for
pub record CanAnswer {M : Type 0} (manner : Manner) (program : List PredTree) (q : QueryTree) (m : MachineView M) (budget : Budget) (given : ℕ) (first : List SinkWrite) : Type 0 where
  pub written : IsWritten (told_query manner.lines program q) m budget given first
  pub runnable : IsRunnable program q
  pub fewer : given < manner.answers
  pub its_bounds : bounds_in budget ≡ bounds_of manner

-- it is listed last, with what it took
pub record IsListedLast (earlier : List QueryRun) (took : Took) (queries : List QueryRun) : Type 0 where
  pub listed : queries ≡ earlier ++ run_of took ∷ []

-- one answer more was written, and more of them may be asked for
pub record AnswersMore {M : Type 0} (manner : Manner) (program : List PredTree) (q : QueryTree) (m : MachineView M) (budget : Budget) (given more : ℕ) (earlier queries : List QueryRun) (writes : List SinkWrite) : Type 0 where
  pub one_more : more ≡ given + 1
  pub can : CanAnswer manner program q m budget more writes
  pub last : IsListedLast earlier (took_in budget) queries

-- its end was written
pub record AnswersEnd (manner : Manner) (program : List PredTree) (q : QueryTree) (given : ℕ) (earlier queries : List QueryRun) (writes : List SinkWrite) : Type 0 where
  pub took : Took
  pub ends : EndsAt (asked_in manner program q) (given + 1) took writes
  pub last : IsListedLast earlier took queries

-- it was cut off
pub record AnswersCut (manner : Manner) (program : List PredTree) (q : QueryTree) (given : ℕ) (earlier queries : List QueryRun) (status : ℕ) (writes : List SinkWrite) : Type 0 where
  pub took : Took
  pub cut : IsCutAt (asked_in manner program q) (given + 1) took status writes
  pub last : IsListedLast earlier took queries

-- what a request of it comes to, by what is answered
abbrev pub AnswerComes : {S M : Type 0} → (Machine S M → MachineView M) → Manner → BegunQuery → Result (Option (PresentRun S M)) Stop → List QueryRun → List SinkWrite → Type 0
AnswerComes view manner begun (Ok (Some present)) queries writes =
    AnswersMore manner begun.program begun.query (view present.machine) present.budget begun.given present.given begun.earlier queries writes
AnswerComes view manner begun (Ok None) queries writes = AnswersEnd manner begun.program begun.query begun.given begun.earlier queries writes
AnswerComes view manner begun (Err stop) queries writes = AnswersCut manner begun.program begun.query begun.given begun.earlier queries (status_of_stop stop) writes
