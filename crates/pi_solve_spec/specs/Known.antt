-- A longer log only adds: a trace under it is the trace before, save that where that ends with a planner call missing, it may go on. What is asked of bodies,
-- which are a parameter here, is that, that more depth only adds, and where a program isn't by rests that the rest counts for nothing. (Own.)
use Rattle.std.specs.Prelude.{◌≡◌, ℕ, List, [], ◌++◌}
use Rattle.pi_terms.specs.Tree.{Tree}
use Rattle.pi_traces.specs.Trace.{Trace, end, note, ans, Call, End, Miss, Note}
use Rattle.pi_traces.specs.Depth.{DepthOnlyAdds}
use Rattle.pi_core.specs.declared.log.LogEntry.{LogEntry}
use Rattle.pi_meaning.specs.Shared.View.{View, body_view}
use Rattle.pi_solve_spec.specs.Bodies.{Bodies}

pub data MoreKnown {A : Type 0} : Trace A → Trace A → Type 0 where
  known_now : (c : Call) (u : Trace A) → MoreKnown (end (Miss c)) u
  known_end : (e : End) → MoreKnown (end e) (end e)
  known_note : (n : Note) {t u : Trace A} → MoreKnown t u → MoreKnown (note n t) (note n u)
  known_answer : (x : A) {t u : Trace A} → MoreKnown t u → MoreKnown (ans x t) (ans x u)

pub record AreBodies (b : Bodies) : Type 0 where
  pub final_deeper : (v : View) (s : Tree) → DepthOnlyAdds (b.final v s)
  pub action_deeper : (v : View) (s : Tree) → DepthOnlyAdds (b.action v s)
  pub final_longer : (log more : List LogEntry) (r : ℕ) (s : Tree) (d : ℕ) → MoreKnown (b.final (body_view log [] r) s d) (b.final (body_view (log ++ more) [] r) s d)
  pub action_longer : (log more : List LogEntry) (r : ℕ) (s : Tree) (d : ℕ) → MoreKnown (b.action (body_view log [] r) s d) (b.action (body_view (log ++ more) [] r) s d)

-- the rest counts for nothing, as in each program that doesn't ask for it
pub record NotByRests (b : Bodies) : Type 0 where
  pub final : (log : List LogEntry) (waiting : List Call) (q r : ℕ) (s : Tree) (d : ℕ) → b.final (body_view log waiting q) s d ≡ b.final (body_view log waiting r) s d
  pub action : (log : List LogEntry) (waiting : List Call) (q r : ℕ) (s : Tree) (d : ℕ) → b.action (body_view log waiting q) s d ≡ b.action (body_view log waiting r) s d
