-- What the core meaning is handed: what names do that are no predicates or functions of the program. (Own.)
use Rattle.std.specs.Prelude.{ℕ, List, Option}
use Rattle.pi_terms.specs.Tree.{Trees}
use Rattle.pi_constraints.specs.State.{State}
use Rattle.pi_traces.specs.Trace.{Trace}
use Rattle.pi_traces.specs.Depth.{Below}
use Rattle.pi_meaning.specs.Shared.Level.{Level, Applied, LevelBelow, or_called, or_applied}

-- what a predicate, and what a function, of this name does with these arguments, at a level, from the state behind their evaluation, and settled from that; None where the
-- name is the program's
pub record Builtins : Type 0 where
  pub predicate : Level → List ℕ → Trees → State → Option (Trace State)
  pub function : Level → List ℕ → Trees → State → Option (Trace Applied)

-- a call by name
abbrev pub predicate_by : Builtins → Level → List ℕ → Trees → State → Trace State
predicate_by b l name ts s = or_called (b.predicate l name ts s) l name ts s

abbrev pub function_by : Builtins → Level → List ℕ → Trees → State → Trace Applied
function_by b l name ts s = or_applied (b.function l name ts s) l name ts s

-- more depth only adds to calls by name
pub record BuiltinsOnlyAdd (b : Builtins) : Type 0 where
  pub predicates : (l m : Level) → LevelBelow l m → (name : List ℕ) (ts : Trees) (s : State) → Below (predicate_by b l name ts s) (predicate_by b m name ts s)
  pub functions : (l m : Level) → LevelBelow l m → (name : List ℕ) (ts : Trees) (s : State) → Below (function_by b l name ts s) (function_by b m name ts s)
