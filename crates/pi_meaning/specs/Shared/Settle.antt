-- Settling: what comes after each built-in predicate, and after a fact, a plan or an exception is unified. The domains become the stable ones, and the goal's events wake agents. A goal
-- that gave no variable another value or domain and posted nothing leaves nothing to settle. (A User's Guide to Picat, 'Constraints'; own as `pi_settling` says.)
use Rattle.std.specs.Prelude.{◌==◌, Bool, true, false, cond, not, ◌&&◌, List, [], ◌∷◌, length, Option, Some, None}
use Rattle.pi_constraints.specs.State.{State, Variable, free, within, bound}
use Rattle.pi_traces.specs.Trace.{Trace, done}
use Rattle.pi_settling.specs.Load.{is_another}
use Rattle.pi_settling.specs.Settled.{loaded}
use Rattle.pi_settling.specs.Settle.{Settlement, answer_with, settlement as settlement_of_goal}

abbrev pub is_free : Variable → Bool
is_free free = true
is_free (within d) = false
is_free (bound t) = false

-- no variable that was there is another, and the new ones are free
unfoldable pub are_unchanged : List Variable → List Variable → Bool
are_unchanged [] [] = true
are_unchanged [] (w ∷ ws) = is_free w && are_unchanged [] ws
are_unchanged (v ∷ vs) [] = false
are_unchanged (v ∷ vs) (w ∷ ws) = not (is_another v w) && are_unchanged vs ws

-- a goal that began in the first state and left the second changed nothing that settling reads
unfoldable pub is_unchanged : State → State → Bool
is_unchanged before s = (length before.constraints == length s.constraints) && are_unchanged before.variables s.variables

-- what settling comes to, where a goal began in the first state and left the second
unfoldable pub settlement : State → State → Settlement
settlement before s = cond (is_unchanged before s) (record { load = 0; left = Some s }) (settlement_of_goal before s)

-- the second state settled: its load, and then the state that is left, or no answer
unfoldable pub settled : State → State → Trace State
settled before s = loaded (settlement before s).load (answer_with (settlement before s).left)

-- a state after a unification, settled; no answer where there is none
abbrev pub settled_from : State → Option State → Trace State
settled_from s None = done
settled_from s (Some r) = settled s r
