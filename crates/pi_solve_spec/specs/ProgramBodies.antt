-- The bodies of a program's planner calls, by the core meaning: calls of its predicates `final` and `action` with a state, which is ground. Each begins in the empty state.
-- And the runs of its queries, under each log.
-- (A User's Guide to Picat, 'Planning'; where a body begins, and that it is a run by itself, is own.)
use Rattle.std.specs.Prelude.{ℕ, List, [], ◌∷◌, ◌++◌, None, replicate, codes}
use Rattle.pi_terms.specs.Tree.{Tree, var}
use Rattle.pi_constraints.specs.State.{empty_state}
use Rattle.pi_core.specs.GoalTree.{GoalTree, call}
use Rattle.pi_core.specs.CoreTree.{PredTree, QueryTree}
use Rattle.pi_traces.specs.Trace.{Trace, one, then}
use Rattle.pi_traces.specs.Depth.{cut}
use Rattle.pi_meaning.specs.Shared.Raise.{within_limit}
use Rattle.pi_meaning.specs.Shared.Level.{Level, Point}
use Rattle.pi_meaning.specs.Shared.View.{query_view}
use Rattle.pi_meaning.specs.Shared.Given.{Later}
use Rattle.pi_meaning.specs.CoreMeaning.Builtins.{Builtins}
use Rattle.pi_meaning.specs.CoreMeaning.Instances.{whole}
use Rattle.pi_meaning.specs.CoreMeaning.Meaning.{slot_value, meaning, strictly}
use Rattle.pi_meaning.specs.CoreMeaning.Rules.{level_at}
use Rattle.pi_meaning.specs.CoreMeaning.Run.{Solution, query_trace}
use Rattle.pi_solve_spec.specs.Bodies.{Offer, Bodies}
use Rattle.pi_solve_spec.specs.Rests.{is_by_rests}
use Rattle.pi_solve_spec.specs.Calls.{Query}
use Rattle.pi_solve_spec.specs.WorkBounds.{Planning}

-- final(S)
abbrev pub final_goal : Tree → GoalTree
final_goal s = call (codes "final") (s ∷ [])

-- action(S,NextS,Action,Cost), with the slots 0, 1 and 2
abbrev pub action_goal : Tree → GoalTree
action_goal s = call (codes "action") (s ∷ var 0 ∷ var 1 ∷ var 2 ∷ [])

abbrev pub body_start : Level → ℕ → Point
body_start l slots = record { level = l; slots = replicate slots None; state = empty_state }

-- a goal with so many slots, at a depth; an answer counts when nothing waits any more
abbrev pub body_trace : Builtins → List PredTree → GoalTree → ℕ → ℕ → Trace Point
body_trace b preds g slots d = strictly (meaning b g) (body_start (level_at b preds d) slots)

-- the values of the three slots; where one is past the limit of copies, that exception stands in the answer's place
abbrev pub offered_values : Tree → Tree → Tree → Trace Offer
offered_values state action cost = within_limit state (within_limit action (within_limit cost (one (record { state = state; action = action; cost = cost }))))

abbrev pub offered : Point → Trace Offer
offered p = offered_values (slot_value 0 p.slots p.state) (slot_value 1 p.slots p.state) (slot_value 2 p.slots p.state)

-- the bodies of a program, where this is what later stages of the language give
abbrev pub bodies_of : Later → List PredTree → Bodies
bodies_of later preds = record {
  final = λ v s d. then (body_trace (whole v later preds) preds (final_goal s) 0 d) (λ p. one p.state);
  action = λ v s d. then (body_trace (whole v later preds) preds (action_goal s) 3 d) offered;
}

-- a query of a program that may take so many Ticks, where no planner call is being answered
abbrev pub query_of : Later → List PredTree → QueryTree → ℕ → Query Solution
query_of later program q steps = λ log d. cut steps (query_trace (whole (query_view log) later (program ++ q.helpers)) program q d)

-- the planner calls of a program
abbrev pub planning_of : Later → List PredTree → Planning
planning_of later program = record { bodies = bodies_of later program; by_rests = is_by_rests program }
