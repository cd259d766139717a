-- What calls by name are handed: the view, what later stages of the language give, and which predicates the program has. What the clauses of a program do is told by a
-- level. (Own.)
use Rattle.std.specs.Prelude.{ℕ, Bool, List}
use Rattle.pi_terms.specs.Tree.{Trees}
use Rattle.pi_constraints.specs.State.{State}
use Rattle.pi_traces.specs.Trace.{Trace}
use Rattle.pi_traces.specs.Depth.{Below}
use Rattle.pi_meaning.specs.Shared.View.{View}
use Rattle.pi_meaning.specs.Shared.Level.{Level, Applied, LevelBelow}

-- What constraints, labelling, events and planner calls do. Each trace is that of the whole goal behind the evaluation of its arguments, settled by itself: a plan's
-- reading isn't settled twice.
pub record Later : Type 0 where
  -- the goals of `is_later_predicate`, at a level
  pub predicate : View → Level → List ℕ → Trees → State → Trace State
  -- the functions of `is_later_function`
  pub function : List ℕ → Trees → State → Trace Applied

-- more depth only adds to what later stages give
abbrev pub LaterOnlyAdds : Later → Type 0
LaterOnlyAdds later = (v : View) (l m : Level) → LevelBelow l m → (name : List ℕ) (ts : Trees) (s : State) →
    Below (later.predicate v l name ts s) (later.predicate v m name ts s)

pub record Setting : Type 0 where
  pub view : View
  pub later : Later
  -- `call` finds a predicate of the program, or of the prelude, of this name with so many arguments
  pub defines : List ℕ → ℕ → Bool
