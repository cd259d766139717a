-- What later stages of the language owe: that what they give doesn't go by the number of the rest. (Own.)
use Rattle.std.specs.Prelude.{◌≡◌, ℕ, List}
use Rattle.pi_terms.specs.Tree.{Trees}
use Rattle.pi_constraints.specs.State.{State}
use Rattle.pi_traces.specs.Trace.{Call}
use Rattle.pi_core.specs.declared.log.LogEntry.{LogEntry}
use Rattle.pi_meaning.specs.Shared.View.{body_view}
use Rattle.pi_meaning.specs.Shared.Level.{Level}
use Rattle.pi_meaning.specs.Shared.Given.{Later}

-- in the bodies of planner calls it is the same with each rest
abbrev pub IgnoresRests : Later → Type 0
IgnoresRests later = (log : List LogEntry) (waiting : List Call) (q r : ℕ) (l : Level) (name : List ℕ) (ts : Trees) (s : State) →
    later.predicate (body_view log waiting q) l name ts s ≡ later.predicate (body_view log waiting r) l name ts s
