-- Settling as a function: the stable domains by runs of all constraints in turn, over and over until nothing changes. Of a state that may settle it makes what `Settled` says. In what order
-- the queue of a store runs constraints isn't told here, and need not be: a state has one stable state at most. (Own.)
use Rattle.std.specs.Prelude.{ℕ, zero, suc, ◌==◌, Bool, true, false, cond, List, [], ◌∷◌, length, filter, get_or, sum_by, Option, Some, None, option_map, option_and_then, ℤ, pos}
use Rattle.pi_terms.specs.Tree.{int}
use Rattle.pi_constraints.specs.declared.constraint.Constraint.{Constraint}
use Rattle.pi_constraints.specs.declared.constraint.Item.{Item}
use Rattle.pi_constraints.specs.Domain.{values_of, size_of}
use Rattle.pi_prop_spec.specs.Places.{places_of}
use Rattle.pi_prop_spec.specs.Decided.{each_below, if_so, leaves}
use Rattle.pi_traces.specs.Trace.{Trace, one, done}
use Rattle.pi_constraints.specs.State.{State, Variable, free, within, bound}
use Rattle.pi_settling.specs.Roots.{root_item}
use Rattle.pi_settling.specs.Run.{given_at}
use Rattle.pi_settling.specs.Values.{domain_of_values}
use Rattle.pi_settling.specs.Load.{load, load_of_failure}
use Rattle.pi_settling.specs.Settled.{loaded, with_events}

-- ---- a run of one constraint

-- what the item at a place comes to
abbrev pub root_at : State → Constraint → ℕ → Item
root_at s c k = root_item s (get_or (places_of c) k (Item.Int (pos 0)))

abbrev pub is_variable : ℕ → Item → Bool
is_variable n (Item.Var m) = m == n
is_variable n (Item.Int i) = false

-- a variable keeps a value: the filter leaves it at each place that comes to the variable
unfoldable pub is_kept : State → Constraint → ℕ → ℤ → Bool
is_kept s c n i = each_below (length (places_of c)) (λ k. if_so (is_variable n (root_at s c k)) (leaves c (given_at s c) k i))

abbrev pub item_left : State → Constraint → ℕ → Item → Bool
item_left s c k (Item.Int i) = leaves c (given_at s c) k i
item_left s c k (Item.Var n) = true

-- the filter leaves each integer at its place
unfoldable pub integers_left : State → Constraint → Bool
integers_left s c = each_below (length (places_of c)) (λ k. item_left s c k (root_at s c k))

-- what a variable is that is left these values: bound to the one, or with several as its domain; None where none is left
abbrev pub variable_with : List ℤ → Option Variable
variable_with [] = None
variable_with (i ∷ []) = Some (bound (int i))
variable_with (i ∷ j ∷ rest) = Some (within (domain_of_values (i ∷ j ∷ rest)))

-- only a variable with a domain changes
abbrev pub variable_left : (ℤ → Bool) → Variable → Option Variable
variable_left kept free = Some free
variable_left kept (within d) = variable_with (filter kept (values_of d))
variable_left kept (bound t) = Some (bound t)

-- the variables from this number on
unfoldable pub variables_left : (ℕ → ℤ → Bool) → ℕ → List Variable → Option (List Variable)
variables_left kept n [] = Some []
variables_left kept n (v ∷ vs) = option_and_then (λ w. option_map (λ ws. w ∷ ws) (variables_left kept (suc n) vs)) (variable_left (kept n) v)

abbrev pub with_variables : State → List Variable → State
with_variables s vs = record { variables = vs; constraints = s.constraints; agents = s.agents; waiting = s.waiting }

-- each variable keeps its values that the filter leaves; None where one, or an integer of the constraint, is left nothing
unfoldable pub run_of : Constraint → State → Option State
run_of c s = cond (integers_left s c) (option_map (with_variables s) (variables_left (is_kept s c) 0 s.variables)) None

-- ---- all constraints, until nothing changes

-- each runs in the state that those before it left
unfoldable pub runs_of : List Constraint → State → Option State
runs_of [] s = Some s
runs_of (c ∷ cs) s = option_and_then (runs_of cs) (run_of c s)

abbrev pub count_within_domain : Variable → ℕ
count_within_domain free = 0
count_within_domain (within d) = size_of d
count_within_domain (bound t) = 0

-- how many values the variables with domains have together
abbrev pub count_all : State → ℕ
count_all s = sum_by count_within_domain s.variables

-- what goes on after a pass that left this state, where it changed something
abbrev pub until_same : Bool → State → (State → Option State) → Option State
until_same true r more = Some r
until_same false r more = more r

-- so many passes at most over all constraints, until one takes no value
unfoldable pub passes : ℕ → State → Option State
passes zero s = Some s
passes (suc k) s = option_and_then (λ r. until_same (count_all r == count_all s) r (passes k)) (runs_of s.constraints s)

-- the stable state; None where some domain is empty. Each pass but the last takes a value, so one more than there are values is enough
unfoldable pub stable_state : State → Option State
stable_state s = passes (suc (count_all s)) s

-- ---- settling

-- what settling comes to: the load, and the state that is left, if any
pub record Settlement : Type 0 where
  pub load : ℕ
  pub left : Option State

abbrev pub settlement_by : State → State → Option State → Settlement
settlement_by before s None = record { load = load_of_failure before s; left = None }
settlement_by before s (Some r) = record { load = load before s r; left = Some (with_events before r) }

-- of the state in which a goal began and the one that it left
unfoldable pub settlement : State → State → Settlement
settlement before s = settlement_by before s (stable_state s)

-- the state as the one answer, or no answer
abbrev pub answer_with : Option State → Trace State
answer_with None = done
answer_with (Some r) = one r

-- the same as a trace
unfoldable pub settled : State → State → Trace State
settled before s = loaded (settlement before s).load (answer_with (settlement before s).left)
