-- Places in a run over names, and what a goal does from one. (Own.)
use Rattle.std.specs.Prelude.{[]}
use Rattle.pi_constraints.specs.State.{State, empty_state}
use Rattle.pi_traces.specs.Trace.{Trace}
use Rattle.pi_meaning.specs.OverNames.Environment.{Environment}

-- a place in a run: what the names stand for, and the state
pub record Place : Type 0 where
  pub names : Environment
  pub state : State

-- what a goal does from a place; an answer is a place again
abbrev pub Doing : Type 0
Doing = Place → Trace Place

-- the place with another state
abbrev pub at_state : Place → State → Place
at_state p s = record { names = p.names; state = s }

-- a goal that is asked begins with no names in the empty state
abbrev pub beginning : Place
beginning = record { names = []; state = empty_state }
