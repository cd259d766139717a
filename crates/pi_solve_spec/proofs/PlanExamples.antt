-- Planner calls, their entries and what asks for the rest, through the definitions.
use Rattle.std.specs.Prelude.{◌≡◌, ℕ, pos, negsuc, Bool, true, false, cond, nat_lt, List, [], ◌∷◌, Some, None, codes, refl}
use Rattle.std.specs.List.{list_any}
use Rattle.std.proofs.Common.{ap}
use Rattle.pi_terms.specs.Tree.{Tree, int, comp, no_trees, tree, cells, most_cells}
use Rattle.pi_traces.specs.Trace.{Call, end, Raise, Abort, Miss}
use Rattle.pi_constraints.specs.Value.{value}
use Rattle.pi_constraints.specs.State.{State, bindings}
use Rattle.pi_core.specs.declared.log.LogEntry.{LogEntry}
use Rattle.pi_core.specs.GoalTree.{apply}
use Rattle.pi_meaning.specs.Shared.Raise.{too_large}
use Rattle.pi_meaning.specs.Shared.View.{View, query_view, body_view, same_call, call_term, Wanted, read_entry}
use Rattle.pi_solve_spec.specs.Asked.{default_limit, Asking, refuses, with_limit, asked, asked_trace, planner_trace}
use Rattle.pi_solve_spec.specs.Rests.{is_rest}

-- A start past the limit is raised, also where it holds a variable.
large-starts_raise : (v : View) (best : Bool) (start plan : Tree) (s : State) → nat_lt most_cells (cells (value (bindings s) start)) ≡ true → planner_trace v best (tree start (tree plan no_trees)) s ≡ Some (end too_large)
large-starts_raise v best start plan s e =
    let a : Asking = record { start = start; limit = int default_limit; wanted = record { plan = plan; cost = None } } in
    ap (λ (b : Bool). Some (cond b (end too_large) (asked_trace v s (asked best (bindings s) a)))) e

-- what a call's entry says: that it is missing, and an exception, which isn't to be caught inside a body and is in a query
entries-read :
    ((v : View) (c : Call) (wanted : Wanted) (s : State) → v.being_answered ≡ [] → read_entry v c wanted s None ≡ end (Miss c))
    × ((log : List LogEntry) (waiting : List Call) (r : ℕ) (c : Call) (wanted : Wanted) (s : State) (start ball : Tree) →
    read_entry (body_view log waiting r) c wanted s (Some (LogEntry.RaisedPlan false start (pos 3) ball)) ≡ end (Abort ball))
    × ((log : List LogEntry) (c : Call) (wanted : Wanted) (s : State) (start ball : Tree) →
    read_entry (query_view log) c wanted s (Some (LogEntry.RaisedPlan false start (pos 3) ball)) ≡ end (Raise ball))
entries-read = (
  λ v c wanted s e. ap (λ (cs : List Call). cond (list_any (same_call c) cs) (end (Abort (comp (codes "unstratified") (tree (call_term c) no_trees)))) (end (Miss c))) e,
  λ log waiting r c wanted s start ball. refl,
  λ log c wanted s start ball. refl,
)

-- a limit below 0 is refused
limits-refused : (best : Bool) (start : Tree) (wanted : Wanted) → with_limit best start wanted (int (negsuc 0)) ≡ refuses (int (negsuc 0))
limits-refused best start wanted = refl

-- an argument makes of `current_resource` another call
rests-asked : (is_rest (apply (codes "current_resource") [] 3) ≡ true) × (is_rest (apply (codes "current_resource") (int (pos 1) ∷ []) 3) ≡ false) × (is_rest (apply (codes "length") [] 3) ≡ false)
rests-asked = (refl, refl, refl)
