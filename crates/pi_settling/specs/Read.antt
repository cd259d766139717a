-- What labelling takes from the reading of constraints: what the reading of an objective's expression posts and comes to, and what a sign between two operands does. (A User's Guide to
-- Picat, 'Constraints'.)
use Rattle.std.specs.Prelude.{ℕ, List, Result, Ok, Err}
use Rattle.pi_terms.specs.Tree.{Tree, comp, no_trees, tree}
use Rattle.pi_constraints.specs.Value.{value}
use Rattle.pi_constraints.specs.State.{State, bindings, next}
use Rattle.pi_traces.specs.Trace.{Trace, end, Raise, one}
use Rattle.pi_settling.specs.Reading.{Reading, Operand, reads, refuses}
use Rattle.pi_prop_spec.specs.Terms.{operand_of}
use Rattle.pi_prop_spec.specs.PostingSums.{Sum}
use Rattle.pi_prop_spec.specs.Steps.{Refusal, Known, read_operand}
use Rattle.pi_prop_spec.specs.Postings.{Posting, posting_in, raised_by, nothing_made, finished}
use Rattle.pi_settling.specs.Posted.{posted_in}

-- an operand by itself is judged as a goal is: steps and operands first, then the finished constraints
abbrev pub operand_as : State → Result (Known Sum) Refusal → Result Posting Refusal → Operand
operand_as s (Err r) p = refuses (raised_by s r)
operand_as s (Ok k) (Err r) = refuses (raised_by s r)
operand_as s (Ok k) (Ok p) = reads (posted_in s p) (record { terms = k.what.terms; constant = k.what.constant })

abbrev pub operand_read : State → Result (Known Sum) Refusal → Operand
operand_read s k = operand_as s k (finished (next s) k)

abbrev pub operand_in : Tree → State → Operand
operand_in t s = operand_read s (read_operand (operand_of (value (bindings s) t)) (nothing_made (next s)))

-- a relation as a goal, before it is settled
abbrev pub relation_trace : State → Result Posting Refusal → Trace State
relation_trace s (Err r) = end (Raise (raised_by s r))
relation_trace s (Ok p) = one (posted_in s p)

abbrev pub relation_in : List ℕ → Tree → Tree → State → Trace State
relation_in name t u s = relation_trace s (posting_in s (comp name (tree t (tree u no_trees))))

abbrev pub constraints_read : Reading
constraints_read = record { operand = operand_in; relation = relation_in }
