-- A session, line by line, by what the code answers.
use Rattle.std.specs.Prelude.{ℕ, List, [], Option, Result, Ok, Err}
use Rattle.pi_outside.specs.Inputs.{SourceRead}
use Rattle.pi_outside.specs.Writes.{SinkWrite}
use Rattle.pi_core.specs.CoreTree.{PredTree}
use Rattle.pi_syntax.specs.ProgramTree.{ProgramTree}
use Rattle.pi_constraints.specs.Store.{StoreView}
use Rattle.pi_outside.specs.Ahead.{Ahead}
use Rattle.pi_top.specs.declared.manner.Manner.{Manner}
use Rattle.pi_top.specs.declared.runs.QueryRun.{QueryRun}
use Rattle.pi_top.specs.declared.present.Present.{Present as PresentRun}
use Rattle.pi_top.specs.declared.query.Stop.{Stop}
use Rattle.pi_top.specs.Stops.{status_of_stop}
use Rattle.pi_top.specs.Serving.{Present}
use Rattle.pi_top.specs.Session.{ServedSoFar, SessionComes, SessionCut}
use Rattle.pi_top.specs.ServingCode.{Keeps}
use Rattle.pi_top.specs.Told.{InputRead, lists}
use Rattle.pi_top.specs.QueryWords.{session_of}

-- these lines were served, and what the code has of the present query is this
pub record IsServedSoFar {S M : Type 0} (seen : S → StoreView M) (order : M → ℕ) (manner : Manner) (program : ProgramTree) (core : List PredTree) (most : ℕ) (run : Option (PresentRun S M)) (ahead : Ahead) (queries : List QueryRun) (reads : List SourceRead) (writes : List SinkWrite) : Type 0 where
  pub lines : List (List ℕ)
  pub present : Present
  pub so_far : ServedSoFar manner program [] most lines present queries ahead reads writes
  pub keeps : Keeps (session_of seen order manner program core) run present queries

-- by what is answered
abbrev pub AnswersSession : Manner → ProgramTree → InputRead → List QueryRun → Result ℕ Stop → List SinkWrite → Type 0
AnswersSession manner program input queries (Ok status) writes = SessionComes manner program input (lists queries []) status writes
AnswersSession manner program input queries (Err stop) writes = SessionCut manner program input (lists queries []) (status_of_stop stop) writes
