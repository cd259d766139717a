-- The traces of what built-in predicates and functions do. What they do is said without traces, in `pi_effects`.
use Rattle.std.specs.Prelude.{ℕ, Bool, true, false, List, Option, option_map, codes}
use Rattle.pi_terms.specs.Tree.{Trees, atom}
use Rattle.pi_constraints.specs.State.{State}
use Rattle.pi_effects.specs.Effect.{Effect, Succeeds, Fails, Writes, Raises, FunctionEffect, Gives, Refuses}
use Rattle.pi_effects.specs.BuiltIns.{built_in_predicate, built_in_function}
use Rattle.pi_traces.specs.Trace.{Trace, end, note, Raise, Out, done, one}
use Rattle.pi_meaning.specs.Shared.Settle.{settled}
use Rattle.pi_meaning.specs.Shared.Within.{is_body}
use Rattle.pi_meaning.specs.Shared.View.{View}
use Rattle.pi_meaning.specs.Shared.Level.{Applied}

-- a text that is written; what belongs to the body of a planner call may write none (own)
abbrev pub written : Bool → List ℕ → State → Trace State
written true text s = end (Raise (atom (codes "output_in_plan")))
written false text s = note (Out text) (one s)

abbrev pub function_trace : FunctionEffect → Trace Applied
function_trace (Gives t s) = one (record { value = t; state = s })
function_trace (Refuses ball) = end (Raise ball)

-- the trace of a predicate's effect under a view, settled, where its goal began in this state; what writes leaves nothing to settle
abbrev pub settled_effect : View → State → Effect → Trace State
settled_effect v before (Succeeds s) = settled before s
settled_effect v before Fails = done
settled_effect v before (Writes text s) = written (is_body v.within) text s
settled_effect v before (Raises ball) = end (Raise ball)

-- what a predicate of the tables does under a view, from the state of its call; None for any other name
unfoldable pub effect : View → List ℕ → Trees → State → Option (Trace State)
effect v name ts s = option_map (settled_effect v s) (built_in_predicate name ts s)

-- the same of functions
unfoldable pub function_effect : List ℕ → Trees → State → Option (Trace Applied)
function_effect name ts s = option_map function_trace (built_in_function name ts s)
