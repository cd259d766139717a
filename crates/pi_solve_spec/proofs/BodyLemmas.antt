-- The bodies of planner calls, and what planner calls come to, under each rest.
use Rattle.std.specs.Prelude.{◌≡◌, ◌++◌, ℕ, Bool, false, cond, List, Option, Some, None, option_map, refl}
use Rattle.pi_terms.specs.Tree.{tree_count}
use Rattle.pi_constraints.specs.Value.{value}
use Rattle.pi_constraints.specs.State.{State, bindings}
use Rattle.pi_core.specs.GoalTree.{GoalTree, subgoals}
use Rattle.pi_core.specs.CoreTree.{PredTree, find_pred}
use Rattle.pi_traces.specs.Trace.{Call, one, then}
use Rattle.pi_core.specs.declared.log.LogEntry.{LogEntry}
use Rattle.pi_meaning.specs.Shared.Raise.{within_limit}
use Rattle.pi_meaning.specs.Shared.View.{body_view, Wanted, entry_for, read_entry, reading}
use Rattle.pi_meaning.specs.Shared.Given.{Later}
use Rattle.pi_meaning.specs.CoreMeaning.Instances.{is_called_by_name, whole}
use Rattle.pi_meaning.specs.Shared.Names.{is_call}
use Rattle.pi_meaning.specs.CoreMeaning.Builtins.{Builtins}
use Rattle.pi_meaning.specs.CoreMeaning.Meaning.{strictly}
use Rattle.pi_solve_spec.specs.Asked.{Asked, asks, refuses, asking, asked, asked_trace}
use Rattle.pi_solve_spec.specs.ProgramBodies.{final_goal, action_goal, body_start, body_trace, offered, bodies_of}
use Rattle.pi_solve_spec.specs.Rests.{asks_rest, is_by_rests}
use Rattle.pi_solve_spec.proofs.CostLemmas.{best_plans_are_cheapest}
use Rattle.pi_solve_spec.specs.Rest.{IgnoresRests}
use Rattle.pi_solve_spec.specs.RestLaws.{GoalsIgnoreRests, LevelsIgnoreRests, QueriesIgnoreRests, BodiesIgnoreRests, BestPlansOfPrograms, PlannerCallsIgnoreRests}
use Rattle.pi_solve_spec.proofs.CallLemmas.{given-alike, function-given-alike, first-alike}
use Rattle.pi_solve_spec.proofs.GoalLemmas.{Alike, goal-alike}
use Rattle.pi_solve_spec.proofs.RuleLemmas.{level-alike, query-alike}

-- all names of the language, under two rests
whole-alike : (later : Later) → IgnoresRests later → (log : List LogEntry) (waiting : List Call) (q r : ℕ) (preds : List PredTree) →
    Alike (whole (body_view log waiting q) later preds) (whole (body_view log waiting r) later preds)
whole-alike later ignores log waiting q r preds =
    let defines : List ℕ → ℕ → Bool = λ name k. is_called_by_name (find_pred false name k preds) in
    record {
      predicate = λ l name ts s. λ i. cond (is_call name (tree_count ts)) (Some (first-alike log waiting later defines ignores q r l ts s i)) (given-alike log waiting later defines ignores q r l name ts s i);
      function = λ l name ts s other. function-given-alike log waiting later defines q r name ts s other;
    }

pub goals_ignore_rests : GoalsIgnoreRests
goals_ignore_rests later ignores log waiting q r preds g n =
    goal-alike (whole (body_view log waiting q) later preds) (whole (body_view log waiting r) later preds) (whole-alike later ignores log waiting q r preds) g n

pub levels_ignore_rests : LevelsIgnoreRests
levels_ignore_rests later ignores log waiting q r preds n d =
    level-alike (whole (body_view log waiting q) later preds) (whole (body_view log waiting r) later preds) (whole-alike later ignores log waiting q r preds) preds n d

pub queries_ignore_rests : QueriesIgnoreRests
queries_ignore_rests later ignores log waiting q r program query n asks_none d =
    query-alike (whole (body_view log waiting q) later (program ++ query.helpers)) (whole (body_view log waiting r) later (program ++ query.helpers))
    (whole-alike later ignores log waiting q r (program ++ query.helpers)) program query n asks_none d

-- ---- bodies

trace-alike : (a b : Builtins) → Alike a b → (preds : List PredTree) → is_by_rests preds ≡ false → (g : GoalTree) → asks_rest g ≡ false → (slots d : ℕ) →
    body_trace a preds g slots d ≡ body_trace b preds g slots d
trace-alike a b h preds n g asks_none slots d = λ i. strictly (goal-alike a b h g asks_none i) (body_start (level-alike a b h preds n d i) slots)

pub bodies_ignore_rests : BodiesIgnoreRests
unfolding subgoals
bodies_ignore_rests later ignores preds n = record {
  final = λ log waiting q r s d. λ i.
      then (trace-alike (whole (body_view log waiting q) later preds) (whole (body_view log waiting r) later preds) (whole-alike later ignores log waiting q r preds) preds n (final_goal s) refl 0 d i)
      (λ p. one p.state);
  action = λ log waiting q r s d. λ i.
      then (trace-alike (whole (body_view log waiting q) later preds) (whole (body_view log waiting r) later preds) (whole-alike later ignores log waiting q r preds) preds n (action_goal s) refl 3 d i)
      offered;
}

pub best_plans_of_programs : BestPlansOfPrograms
best_plans_of_programs later ignores preds n log start plan limit cost right actions other valid =
    best_plans_are_cheapest (bodies_of later preds) log start plan limit cost (bodies_ignore_rests later ignores preds n) right actions other valid

-- ---- planner calls

entry-alike : (log : List LogEntry) (waiting : List Call) (q r : ℕ) (c : Call) (wanted : Wanted) (s : State) (o : Option LogEntry) →
    read_entry (body_view log waiting q) c wanted s o ≡ read_entry (body_view log waiting r) c wanted s o
entry-alike log waiting q r c wanted s None = refl
entry-alike log waiting q r c wanted s (Some (LogEntry.Planned best start limit result)) = refl
entry-alike log waiting q r c wanted s (Some (LogEntry.RaisedPlan best start limit ball)) = refl

asked-alike : (log : List LogEntry) (waiting : List Call) (q r : ℕ) (s : State) (x : Asked) → asked_trace (body_view log waiting q) s x ≡ asked_trace (body_view log waiting r) s x
unfolding reading
asked-alike log waiting q r s (asks c wanted) = entry-alike log waiting q r c wanted s (entry_for c log)
asked-alike log waiting q r s (refuses t) = refl

pub planner_calls_ignore_rests : PlannerCallsIgnoreRests
planner_calls_ignore_rests log waiting q r best ts s =
    λ i. option_map (λ a. within_limit (value (bindings s) a.start) (asked-alike log waiting q r s (asked best (bindings s) a) i)) (asking (bindings s) ts)
