-- In what a goal runs: a query, or the body of a planner call, which has what is left of that call's limit. (A User's Guide to Picat, 'Planning'; that a body
-- has a rest in this form is own.)
use Rattle.std.specs.Prelude.{ℕ, pos, Bool, true, false, codes}
use Rattle.pi_terms.specs.Tree.{int, atom}
use Rattle.pi_constraints.specs.State.{State}
use Rattle.pi_traces.specs.Trace.{Trace, end, Raise, one}
use Rattle.pi_meaning.specs.Shared.Level.{Applied}

-- a query, or the body of a planner call with so much of its limit left
pub data Within : Type 0 where
  a_query : Within
  a_body : ℕ → Within

abbrev pub is_body : Within → Bool
is_body a_query = false
is_body (a_body n) = true

-- `current_resource()`
abbrev pub resource_left : Within → State → Trace Applied
resource_left a_query s = end (Raise (atom (codes "no_resource")))
resource_left (a_body n) s = one (record { value = int (pos n); state = s })
