-- What a planner call asks for, by its arguments, and what it comes to where it stands (A User's Guide to Picat, 'Planning'; the log is own).
use Rattle.std.specs.Prelude.{ℕ, ℤ, pos, negsuc, Bool, List, [], ◌∷◌, Option, Some, None, option_map, codes}
use Rattle.pi_terms.specs.Tree.{Tree, var, int, atom, comp, Trees, no_trees, tree}
use Rattle.pi_terms.specs.Variables.{variables}
use Rattle.pi_traces.specs.Trace.{Trace, Call}
use Rattle.pi_constraints.specs.Value.{Bindings, value}
use Rattle.pi_constraints.specs.State.{State, bindings, followed}
use Rattle.pi_meaning.specs.Shared.View.{View, Wanted, reading}
use Rattle.pi_meaning.specs.Shared.Raise.{within_limit, raised_with}

-- the limit of a call that names none
abbrev pub default_limit : ℤ
default_limit = pos 268435455

-- the parts of a call: the state to start from, the limit, and what plan and cost are unified with
pub record Asking : Type 0 where
  pub start : Tree
  pub limit : Tree
  pub wanted : Wanted

-- (S,Limit,Plan) where the second argument is an integer, and else (S,Plan,Cost)
abbrev pub asking_three : Tree → Tree → Tree → Tree → Asking
asking_three (var n) start second third = record { start = start; limit = int default_limit; wanted = record { plan = second; cost = Some third } }
asking_three (int i) start second third = record { start = start; limit = second; wanted = record { plan = third; cost = None } }
asking_three (atom name) start second third = record { start = start; limit = int default_limit; wanted = record { plan = second; cost = Some third } }
asking_three (comp name ts) start second third = record { start = start; limit = int default_limit; wanted = record { plan = second; cost = Some third } }

-- (S,Plan), three arguments, or (S,Limit,Plan,Cost); None for other numbers of them
abbrev pub asking : Bindings → Trees → Option Asking
asking b (tree start (tree plan no_trees)) = Some (record { start = start; limit = int default_limit; wanted = record { plan = plan; cost = None } })
asking b (tree start (tree second (tree third no_trees))) = Some (asking_three (followed b second) start second third)
asking b (tree start (tree limit (tree plan (tree cost no_trees)))) = Some (record { start = start; limit = limit; wanted = record { plan = plan; cost = Some cost } })
asking b ts = None

-- the call that is asked, or the term that is no start or no limit; the start is judged first
pub data Asked : Type 0 where
  asks : Call → Wanted → Asked
  refuses : Tree → Asked

abbrev pub with_limit : Bool → Tree → Wanted → Tree → Asked
with_limit best start wanted (var n) = refuses (var n)
with_limit best start wanted (int (pos n)) = asks (record { best = best; start = start; limit = pos n }) wanted
with_limit best start wanted (int (negsuc n)) = refuses (int (negsuc n))
with_limit best start wanted (atom name) = refuses (atom name)
with_limit best start wanted (comp name ts) = refuses (comp name ts)

abbrev pub if_start : List ℕ → Tree → Asked → Asked
if_start [] start asked = asked
if_start (n ∷ ns) start asked = refuses start

abbrev pub asked : Bool → Bindings → Asking → Asked
asked best b a =
    let start : Tree = value b a.start in
    if_start (variables start) start (with_limit best start a.wanted (value b a.limit))

-- ---- where it stands

-- what is asked comes to what the view reads; what isn't is raised, and has no entry
abbrev pub asked_trace : View → State → Asked → Trace State
asked_trace v s (asks c wanted) = reading v c wanted s
asked_trace v s (refuses t) = raised_with (codes "planner") t s

-- a planner call with these arguments: the value of its start is measured before anything else of it is judged
abbrev pub planner_trace : View → Bool → Trees → State → Option (Trace State)
planner_trace v best ts s = option_map (λ a. within_limit (value (bindings s) a.start) (asked_trace v s (asked best (bindings s) a))) (asking (bindings s) ts)
