-- An event that a goal posts: `post_event(X,T)` makes the agents wait that watch for it on X, and does nothing where X is no variable any more. T is the
-- term as it stands, and is measured first, on a bound X too. (A User's Guide to Picat, 'Action Rules'; that a bound X does nothing, and the limit, are own.)
use Rattle.std.specs.Prelude.{nat_lt, cond, List, [], ◌∷◌, ◌++◌}
use Rattle.pi_terms.specs.Tree.{Tree, var, int, atom, comp, cells, most_cells}
use Rattle.pi_traces.specs.Trace.{Trace, end, Raise, one}
use Rattle.pi_constraints.specs.Value.{value}
use Rattle.pi_constraints.specs.State.{State, bindings, followed, with_waiting}
use Rattle.pi_constraints.specs.declared.event.Event.{Event}
use Rattle.pi_effects.specs.Exception.{term_too_large}
use Rattle.pi_settling.specs.Answers.{activations}

-- the event of a term whose bindings at the root are followed
abbrev pub posted_events : Tree → Tree → List Event
posted_events (var n) t = Event.Posted n t ∷ []
posted_events (int i) t = []
posted_events (atom name) t = []
posted_events (comp name ts) t = []

-- the state in which its activations wait
abbrev pub with_posted : State → Tree → Tree → State
with_posted s x t = with_waiting s (s.waiting ++ activations s (posted_events (followed (bindings s) x) t))

-- what the goal comes to before it is settled
abbrev pub posting : State → Tree → Tree → Trace State
posting s x t = cond (nat_lt most_cells (cells (value (bindings s) t))) (end (Raise term_too_large)) (one (with_posted s x t))
