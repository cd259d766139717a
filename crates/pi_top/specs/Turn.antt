-- What one request of a query comes to: its next answer, or its end. Here it is a query of the core language, whose run is that of the goal over its names.
use Rattle.std.specs.Prelude.{◌≡◌, ◌<◌, ◌+◌, ℕ, List, ◌++◌, Option, None, Some, Result, Ok, Err}
use Rattle.pi_outside.specs.Writes.{SinkWrite}
use Rattle.pi_traces.specs.Trace.{Emitted}
use Rattle.pi_traces.specs.Depth.{Cut}
use Rattle.pi_meaning.specs.CoreMeaning.Run.{Solution}
use Rattle.pi_meaning.specs.declared.happening.Budget.{Budget}
use Rattle.pi_engine.specs.Seen.{MachineView}
use Rattle.pi_top.specs.declared.query.Stop.{Stop}
use Rattle.pi_top.specs.Stops.{status_of_stop}
use Rattle.pi_top.specs.Handing.{HandsAll}
use Rattle.pi_top.specs.QueryEnd.{QueryEnd, Stopped, Ends}
use Rattle.pi_top.specs.QueryWords.{ToldQuery, told_query, AskedQuery}
use Rattle.pi_top.specs.Running.{print_solutions, IsQueryPart, HowQueryIsCut, IsWritten}
use Rattle.pi_top.specs.ToldLines.{end_lines}
use Rattle.pi_top.specs.Took.{Took, took_in, TakesAt}

-- at the last of so many requests its end is written; it is stopped where as many answers were written as are asked for
pub record EndsAt (asked : AskedQuery) (requests : ℕ) (took : Took) (writes : List SinkWrite) : Type 0 where
  pub run : Cut Solution
  pub part : List (Emitted Solution)
  pub is_part : IsQueryPart asked.program asked.query asked.bounds.steps run part
  pub ending : QueryEnd
  pub ends : Ends requests part run ending
  pub takes : TakesAt asked.bounds.work ending took part
  pub at_limit : ending ≡ Stopped → requests ≡ asked.answers
  pub written : HandsAll (print_solutions asked.lines asked.query.names part ++ end_lines asked.lines ending) writes

-- an answer more was written, and more of them may be asked for
pub record GoesOnAt {M : Type 0} (of : ToldQuery) (answers requests : ℕ) (n : MachineView M) (c : Budget) (writes : List SinkWrite) : Type 0 where
  pub written : IsWritten of n c requests writes
  pub fewer : requests < answers

-- it is cut off within the last of so many requests, and so it is with all answers that are asked for in place of these; one part of its run for both, so the line whose write failed is no `stopped` that comes too early
pub record IsCutAt (asked : AskedQuery) (requests : ℕ) (took : Took) (status : ℕ) (writes : List SinkWrite) : Type 0 where
  pub run : Cut Solution
  pub part : List (Emitted Solution)
  pub is_part : IsQueryPart asked.program asked.query asked.bounds.steps run part
  pub at_request : HowQueryIsCut asked.lines requests asked.bounds.work asked.query run part took status writes
  pub in_all : HowQueryIsCut asked.lines asked.answers asked.bounds.work asked.query run part took status writes

-- by what is answered, where so many answers were written before
abbrev pub TurnComes : {M : Type 0} → AskedQuery → ℕ → MachineView M → Budget → Result (Option ℕ) Stop → List SinkWrite → Type 0
TurnComes asked given n c (Ok (Some more)) writes = (more ≡ given + 1) × GoesOnAt (told_query asked.lines asked.program asked.query) asked.answers (given + 1) n c writes
TurnComes asked given n c (Ok None) writes = EndsAt asked (given + 1) (took_in c) writes
TurnComes asked given n c (Err stop) writes = IsCutAt asked (given + 1) (took_in c) (status_of_stop stop) writes
