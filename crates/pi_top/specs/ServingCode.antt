-- A line that is served, by what the code answers: the bridge between the code's present query and that of `Serving`.
use Rattle.std.specs.Prelude.{◌≡◌, ℕ, List, [], Option, None, Some, Result, Ok, Err}
use Rattle.pi_outside.specs.Writes.{SinkWrite}
use Rattle.pi_core.specs.CoreTree.{PredTree, QueryTree, program_tree}
use Rattle.pi_syntax.specs.ExpTree.{ExpTree}
use Rattle.pi_syntax.specs.ProgramTree.{ProgramTree, source_tree}
use Rattle.pi_constraints.specs.Store.{StoreView}
use Rattle.pi_meaning.specs.declared.happening.Budget.{Budget}
use Rattle.pi_engine.specs.Seen.{MachineView, machine_view}
use Rattle.pi_rewrite.specs.Laws.{RunsTheSame}
use Rattle.pi_outside.specs.Requests.{Asked}
use Rattle.pi_top.specs.declared.manner.Manner.{Manner}
use Rattle.pi_top.specs.declared.runs.QueryRun.{QueryRun}
use Rattle.pi_top.specs.declared.present.Present.{Present as PresentRun}
use Rattle.pi_top.specs.declared.session.Session.{Session}
use Rattle.pi_top.specs.declared.query.Stop.{Stop}
use Rattle.pi_top.specs.Stops.{status_of_stop}
use Rattle.pi_top.specs.Serving.{Present, no_query, query, Serves, CutServing}
use Rattle.pi_top.specs.PresentCode.{CanAnswer, IsListedLast}
use Rattle.pi_top.specs.QueryWords.{SessionOf, session_of, ListedOver}
use Rattle.pi_top.specs.Took.{took_in}

-- what a session is, by the code's own, over a kind of store
abbrev pub its_session : {S M : Type 0} → (S → StoreView M) → (M → ℕ) → Session → SessionOf S M
its_session seen order its = session_of seen order its.manner (source_tree its.program.now) (program_tree its.core.now)

-- the present query is run so: its goal is that of a query of the core language, and it had so many requests
pub record IsKept {M : Type 0} (manner : Manner) (program : ProgramTree) (core : List PredTree) (m : MachineView M) (budget : Budget) (given : ℕ) (goal : ExpTree) (requests : ℕ) (first : List SinkWrite) (queries : List QueryRun) : Type 0 where
  pub q : QueryTree
  pub runs : RunsTheSame program goal core q
  pub can : CanAnswer manner core q m budget given first
  pub so_many : given ≡ requests
  pub earlier : List QueryRun
  pub last : IsListedLast earlier (took_in budget) queries

-- this is the present query, by what the code has of it
abbrev pub Keeps : {S M : Type 0} → SessionOf S M → Option (PresentRun S M) → Present → List QueryRun → Type 0
Keeps session None present queries = present ≡ no_query
Keeps session (Some run) no_query queries = ⊥
Keeps session (Some run) (query goal requests first) queries =
    IsKept session.manner session.program session.core (machine_view session.seen session.order run.machine) run.budget run.given goal requests first queries

-- the line was served, and this is the present query then
pub record ServesAll {S M : Type 0} (session : SessionOf S M) (present : Present) (asked : Asked) (run : Option (PresentRun S M)) (queries : ListedOver) (writes : List SinkWrite) : Type 0 where
  pub next : Present
  pub serves : Serves session.manner session.program [] present asked next queries.old queries.new writes
  pub keeps : Keeps session run next queries.new

-- by what is answered
abbrev pub ServesTo : {S M : Type 0} → SessionOf S M → Present → Asked → Result (Option (PresentRun S M)) Stop → ListedOver → List SinkWrite → Type 0
ServesTo session present asked (Ok run) queries writes = ServesAll session present asked run queries writes
ServesTo session present asked (Err stop) queries writes = CutServing session.manner session.program [] present asked queries.old queries.new (status_of_stop stop) writes
