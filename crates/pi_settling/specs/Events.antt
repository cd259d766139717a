-- The events of a goal: what happened to the variables that were unbound at its start, seen from the state there and the stable state at its end. (A
-- User's Guide to Picat, 'Action Rules'; when an event is posted, and their order, is own.)
use Rattle.std.specs.Prelude.{ℕ, suc, ℤ, Bool, true, false, cond, not, ◌&&◌, int_lt, nat_le, List, [], ◌∷◌, ◌++◌, map, filter, Option, Some, None}
use Rattle.std.specs.Ordering.{is_eq, int_cmp}
use Rattle.pi_terms.specs.Tree.{Tree, var, int, atom, comp}
use Rattle.pi_constraints.specs.declared.constraint.Item.{Item}
use Rattle.pi_constraints.specs.declared.domain.Span.{Span}
use Rattle.pi_constraints.specs.Domain.{has_value, values_of, size_of}
use Rattle.pi_prop_spec.specs.Ends.{least_of, greatest_of}
use Rattle.pi_constraints.specs.State.{State, Variable, free, within, bound, bindings, domain_of, followed}
use Rattle.pi_constraints.specs.declared.event.Event.{Event}
use Rattle.pi_settling.specs.Roots.{root_item, only}

-- the most values of a domain whose lost values are told one by one (own)
abbrev pub most_told : ℕ
most_told = 65536

-- ins: the variable is an integer, an atom or a compound now
abbrev pub ins_events : Bool → ℕ → List Event
ins_events true n = Event.Ins n ∷ []
ins_events false n = []

-- bound: the least or the greatest value is another one
abbrev pub same_ends : List Span → List Span → Bool
same_ends d e = is_eq (int_cmp (least_of d) (least_of e)) && is_eq (int_cmp (greatest_of d) (greatest_of e))

abbrev pub bound_events : ℕ → List Span → List Span → List Event
bound_events n d e = cond (same_ends d e) [] (Event.Bound n ∷ [])

-- a value strictly between the least and the greatest
abbrev pub is_inner : List Span → ℤ → Bool
is_inner d i = int_lt (least_of d) i && int_lt i (greatest_of d)

-- the values that a domain has and another one doesn't, ascending
abbrev pub lost_values : List Span → List Span → List ℤ
lost_values d e = filter (λ i. not (has_value e i)) (values_of d)

-- each value that was lost, where there were no more than the most that are told
abbrev pub excluded_events : ℕ → List Span → List Span → List Event
excluded_events n d e = cond (nat_le (size_of d) most_told) (map (λ i. Event.Excluded n i (is_inner d i)) (lost_values d e)) []

-- a variable that had no domain has no such event
abbrev pub domain_events : ℕ → Option (List Span) → Option (List Span) → List Event
domain_events n None e = []
domain_events n (Some d) None = []
domain_events n (Some d) (Some e) = bound_events n d e ++ excluded_events n d e

-- the events of one variable, by the domain that it had and the one that it has, and whether it is a term now that is no variable
unfoldable pub variable_events : ℕ → Option (List Span) → Option (List Span) → Bool → List Event
variable_events n old new is_term = ins_events is_term n ++ domain_events n old new

abbrev pub is_no_variable : Tree → Bool
is_no_variable (var n) = false
is_no_variable (int i) = true
is_no_variable (atom name) = true
is_no_variable (comp name ts) = true

-- the domain of an item whose bindings are followed
abbrev pub item_domain : State → Item → Option (List Span)
item_domain s (Item.Var n) = domain_of s n
item_domain s (Item.Int i) = Some (only i)

-- what happened to a variable that was this at the start
abbrev pub events_since : State → ℕ → Variable → List Event
events_since s n free = variable_events n None (item_domain s (root_item s (Item.Var n))) (is_no_variable (followed (bindings s) (var n)))
events_since s n (within d) = variable_events n (Some d) (item_domain s (root_item s (Item.Var n))) (is_no_variable (followed (bindings s) (var n)))
events_since s n (bound t) = []

-- the variables by number, from this one on
unfoldable pub events_from : State → ℕ → List Variable → List Event
events_from s n [] = []
events_from s n (v ∷ vs) = events_since s n v ++ events_from s (suc n) vs

-- the events between two states
abbrev pub events_between : State → State → List Event
events_between before s = events_from s 0 before.variables
