-- Views: what is known of planner calls where a goal is run, and what a planner call comes to under a view (A User's
-- Guide to Picat, 'Planning'; the log, and that no call waits for itself, are own).
use Rattle.std.specs.Prelude.{ℕ, ℤ, Bool, true, false, cond, List, [], ◌∷◌, Option, Some, None, codes, option_and_then, Contains}
use Rattle.std.specs.List.{list_any}
use Rattle.pi_terms.specs.Tree.{Tree, var, int, comp, no_trees, tree}
use Rattle.pi_terms.specs.Order.{identical}
use Rattle.pi_terms.specs.Variables.{IsGround}
use Rattle.pi_constraints.specs.State.{State}
use Rattle.pi_constraints.specs.Unify.{unified}
use Rattle.pi_traces.specs.Trace.{Trace, end, Call, Raise, Abort, Miss, done}
use Rattle.pi_meaning.specs.Shared.Settle.{settled_from}
use Rattle.pi_meaning.specs.Shared.Within.{Within, a_query, a_body, is_body}
use Rattle.pi_core.specs.declared.log.LogEntry.{LogEntry}
use Rattle.pi_core.specs.declared.log.PlanResult.{PlanResult}

-- the planner calls that are done, in the order of their completion; those that are being answered; in what the goal runs
pub record View : Type 0 where
  pub log : List LogEntry
  pub being_answered : List Call
  pub within : Within

-- the view of a query under a log
abbrev pub query_view : List LogEntry → View
query_view log = record { log = log; being_answered = []; within = a_query }

-- that of the body of a planner call, while these calls are being answered, with so much of its limit left
abbrev pub body_view : List LogEntry → List Call → ℕ → View
body_view log waiting r = record { log = log; being_answered = waiting; within = a_body r }

-- no plan of its log holds a variable
abbrev pub PlansAreGround : View → Type 0
PlansAreGround v = (best : Bool) (start : Tree) (limit : ℤ) (plan : Tree) (cost : ℤ) →
    Contains v.log (LogEntry.Planned best start limit (PlanResult.Found plan cost)) → IsGround plan

-- the call that an entry answers
abbrev pub call_of : LogEntry → Call
call_of (LogEntry.Planned best start limit result) = record { best = best; start = start; limit = limit }
call_of (LogEntry.RaisedPlan best start limit ball) = record { best = best; start = start; limit = limit }

-- a call as a term, with new variables in place of plan and cost
abbrev pub call_term : Call → Tree
call_term c = comp (cond c.best (codes "best_plan") (codes "plan")) (tree c.start (tree (int c.limit) (tree (var 0) (tree (var 1) no_trees))))

-- two calls are one where their terms are
abbrev pub same_call : Call → Call → Bool
same_call c d = identical (call_term c) (call_term d)

-- the first entry for a call
unfoldable pub entry_for : Call → List LogEntry → Option LogEntry
entry_for c [] = None
entry_for c (e ∷ log) = cond (same_call c (call_of e)) (Some e) (entry_for c log)

-- what a call asks for: a term for the plan, and maybe one for its cost
pub record Wanted : Type 0 where
  pub plan : Tree
  pub cost : Option Tree

abbrev pub cost_unified : Option Tree → ℤ → State → Option State
cost_unified None cost s = Some s
cost_unified (Some t) cost s = unified s t (int cost)

-- the plan and its cost are unified with what the call asks for
abbrev pub answered_by : PlanResult → Wanted → State → Trace State
answered_by PlanResult.NoPlan wanted s = done
answered_by (PlanResult.Found plan cost) wanted s = settled_from s (option_and_then (cost_unified wanted.cost cost) (unified s wanted.plan plan))

abbrev pub raised_by : Bool → Tree → Trace State
raised_by true ball = end (Abort ball)
raised_by false ball = end (Raise ball)

-- where there is no entry: the call waits for itself, or is missing
abbrev pub unknown : View → Call → Trace State
unknown v c = cond (list_any (same_call c) v.being_answered) (end (Abort (comp (codes "unstratified") (tree (call_term c) no_trees)))) (end (Miss c))

abbrev pub read_entry : View → Call → Wanted → State → Option LogEntry → Trace State
read_entry v c wanted s None = unknown v c
read_entry v c wanted s (Some (LogEntry.Planned best start limit result)) = answered_by result wanted s
read_entry v c wanted s (Some (LogEntry.RaisedPlan best start limit ball)) = raised_by (is_body v.within) ball

-- what a planner call comes to whose start is ground and whose limit is an integer from 0: its plan and cost, unified; no
-- answer; the exception that it ended in, which within a planner call's body is not to be caught; the exception of a call
-- that waits for itself; a missing answer
unfoldable pub reading : View → Call → Wanted → State → Trace State
reading v c wanted s = read_entry v c wanted s (entry_for c v.log)
