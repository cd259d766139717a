-- Exceptions that are caught (A User's Guide to Picat, 'Exceptions'; in which state that is, and that it is settled, is own).
use Rattle.std.specs.Prelude.{Option, Some, None}
use Rattle.pi_terms.specs.Tree.{Tree}
use Rattle.pi_terms.specs.Copy.{copy, new_variables}
use Rattle.pi_constraints.specs.State.{State, next}
use Rattle.pi_constraints.specs.Unify.{unified}
use Rattle.pi_constraints.specs.Evaluation.{with_new_variables}
use Rattle.pi_traces.specs.Trace.{Trace, end, Raise, then}
use Rattle.pi_meaning.specs.Shared.Settle.{settled}

-- where a term is raised, a copy of it is unified with what is to be caught, in the state in which the goal began. That is settled, and what handles it goes on; where they
-- don't unify, the term is raised on.
abbrev pub handled_in : {A : Type 0} → State → Tree → (State → Trace A) → Option State → Trace A
handled_in s ball handler None = end (Raise ball)
handled_in s ball handler (Some r) = then (settled s r) handler

abbrev pub handling : {A : Type 0} → State → Tree → (State → Trace A) → Tree → Trace A
handling s wanted handler ball =
    handled_in s ball handler (unified (with_new_variables (new_variables ball) s) wanted (copy (next s) ball))
