-- What the forms of control make of the meanings of the goals and expressions in them (A User's Guide to Picat, 'Goals' and 'Exceptions'; that a place is strict, and
-- what an expression comes to as a trace, is own).
use Rattle.std.specs.Prelude.{ℕ, zero, suc, pos, List, [], ◌∷◌, Option, Some, None}
use Rattle.pi_terms.specs.Tree.{Tree, Trees, no_trees, tree}
use Rattle.pi_terms.specs.ListCopies.{new_in_all, list_of_copies}
use Rattle.pi_constraints.specs.Value.{value}
use Rattle.pi_constraints.specs.State.{bindings, next}
use Rattle.pi_constraints.specs.Evaluation.{with_new_variables}
use Rattle.pi_traces.specs.Trace.{Trace, done, one, alt, then, first}
use Rattle.pi_traces.specs.Control.{negated, chosen, collected, counted, caught}
use Rattle.pi_meaning.specs.Shared.Level.{Level, calls_at}
use Rattle.pi_meaning.specs.CoreMeaning.Meaning.{copyable}
use Rattle.pi_meaning.specs.Shared.Handling.{handling}
use Rattle.pi_meaning.specs.Shared.Given.{Setting}
use Rattle.pi_meaning.specs.Shared.Calls.{predicate_called, function_called, first_called}
use Rattle.pi_meaning.specs.OverNames.Environment.{Valued, ValuedAll}
use Rattle.pi_meaning.specs.OverNames.Place.{Place, Doing, at_state}
use Rattle.pi_meaning.specs.OverNames.Assigning.{with_value, place_of}

-- what a goal does at a level, from a place; what an expression comes to, and what several come to
abbrev pub Goal : Type 0
Goal = Level → Doing

abbrev pub Value : Type 0
Value = Level → Place → Trace Valued

abbrev pub Values : Type 0
Values = Level → Place → Trace ValuedAll

-- for what stands in no such place; a text with one there has a fault
abbrev pub no_goal : Goal
no_goal l p = done

abbrev pub no_value : Value
no_value l p = done

-- each goal first drains the state
unfoldable pub draining : Goal → Goal
draining g l p = then ((calls_at l).drained p.state) (λ s. g l (at_state p s))

-- an answer of a goal at a strict place counts when nothing waits any more
unfoldable pub strictly : Goal → Goal
strictly g l p = then (g l p) (draining (λ m q. one q) l)

-- ---- values

abbrev pub constantly : Tree → Value
constantly t l p = one (record { tree = t; names = p.names; state = p.state })

abbrev pub behind_all : ValuedAll → Place
behind_all all = record { names = all.names; state = all.state }

abbrev pub nothing : Values
nothing l p = one (record { trees = no_trees; names = p.names; state = p.state })

-- one, and then those behind it
abbrev pub in_front : Value → Values → Values
in_front v vs l p = then (v l p) (λ x. then (vs l (place_of x)) (λ all. one (record { trees = tree x.tree all.trees; names = all.names; state = all.state })))

abbrev pub made_of : (Trees → Tree) → Values → Value
made_of make vs l p = then (vs l p) (λ all. one (record { tree = make all.trees; names = all.names; state = all.state }))

-- a term that is made of some, and of one behind them
abbrev pub made_onto : (Trees → Tree → Tree) → Values → Value → Value
made_onto make vs v l p = then (vs l p) (λ all. then (v l (behind_all all)) (λ x. one (record { tree = make all.trees x.tree; names = x.names; state = x.state })))

-- a function's value, of the values of its arguments
unfoldable pub applied_to : Setting → List ℕ → Values → Value
applied_to set name vs l p =
    then (vs l p) (λ all. then (function_called set l name all.trees all.state) (λ a. one (record { tree = a.value; names = all.names; state = a.state })))

-- `find_all`: the value of an expression after each answer of a goal, as a list of copies, whose variables are numbered on from the state of the call
abbrev pub list_in : Place → List Tree → Valued
list_in p ts = record { tree = list_of_copies (next p.state) ts; names = p.names; state = with_new_variables (new_in_all ts) p.state }

unfoldable pub all_found : Value → Goal → Value
all_found v g l p = collected (then (then (strictly g l p) (v l)) (λ x. copyable (value (bindings x.state) x.tree))) (λ t. t) (λ ts. one (list_in p ts))

-- `count_all`
unfoldable pub all_counted : Goal → Value
all_counted g l p = counted (strictly g l p) (λ n. one (record { tree = Tree.int (pos n); names = p.names; state = p.state }))

-- ---- goals

-- the arguments are evaluated, and then a predicate is called
unfoldable pub called_with : Setting → List ℕ → Values → Goal
called_with set name vs l p =
    then (vs l p) (λ all. then (predicate_called set l name all.trees all.state) (λ s. one (record { names = all.names; state = s })))

-- `call`: of its arguments the first is called
unfoldable pub calling_term : Setting → Values → Goal
calling_term set vs l p = then (vs l p) (λ all. then (first_called set l all.trees all.state) (λ s. one (record { names = all.names; state = s })))

abbrev pub following : Goal → Goal → Goal
following g h l p = then (g l p) (h l)

abbrev pub either : Goal → Goal → Goal
either g h l p = alt (g l p) (h l p)

-- a condition is taken by its first answer, whose names and bindings stay
unfoldable pub choosing : Goal → Goal → Goal → Goal
choosing test holds other l p = chosen (strictly test l p) (holds l) (other l p)

-- a branch of a disjunction with an arrow: its condition and its body
pub record Arrow : Type 0 where
  pub test : Goal
  pub body : Goal

-- a branch, and those behind it, which are alternatives, or of an arrow its else part
abbrev pub branch_before : Option Arrow → Goal → Goal → Goal
branch_before None g others = either g others
branch_before (Some a) g others = choosing a.test a.body others

unfoldable pub denying : Goal → Goal
denying g l p = negated (strictly g l p) p

unfoldable pub taken_once : Goal → Goal
taken_once g l p = first (strictly g l p)

-- `X := E`
abbrev pub with_assigned : Option (List ℕ) → Valued → Trace Place
with_assigned None x = done
with_assigned (Some name) x = one (record { names = with_value x.names name x.tree; state = x.state })

abbrev pub assigning : Option (List ℕ) → Value → Goal
assigning name v l p = then (v l p) (with_assigned name)

-- `catch`: what is to be caught is evaluated first
unfoldable pub catching : Goal → Value → Goal → Goal
catching g ball handler l p =
    then (ball l p) (λ x. caught (strictly g l (place_of x)) (handling x.state x.tree (λ s. handler l (at_state (place_of x) s))))

-- the goal or the expression at a place, counted from 0
unfoldable pub goal_at : List Goal → ℕ → Goal
goal_at [] i = no_goal
goal_at (g ∷ gs) zero = g
goal_at (g ∷ gs) (suc i) = goal_at gs i

unfoldable pub value_at : List Value → ℕ → Value
value_at [] i = no_value
value_at (v ∷ vs) zero = v
value_at (v ∷ vs) (suc i) = value_at vs i
