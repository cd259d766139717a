-- `::` and `notin`, worked through the definitions.
use Rattle.std.specs.Prelude.{◌≡◌, ℕ, ◌^◌, ◌-◌, pos, [], ◌∷◌, Some, codes, refl}
use Rattle.pi_terms.specs.Tree.{Tree, var, int, atom, comp, trees_of, cells}
use Rattle.pi_terms.specs.Substitution.{instance}
use Rattle.pi_constraints.specs.declared.domain.Span.{Span}
use Rattle.pi_constraints.specs.Domain.{has_value, numbers_from, values_of, overlap, shared, common}
use Rattle.pi_constraints.specs.Value.{value, rounds}
use Rattle.pi_constraints.specs.State.{State, Variable, free, within, bound, followed_for, followed}
use Rattle.pi_effects.specs.Effect.{Effect, Succeeds, Fails, Raises}
use Rattle.pi_effects.specs.Exception.{type_error, bad_range, range_too_long}
use Rattle.pi_effects.specs.Items.{each_tree, list_onto, list_of, array_of, items_for, list_items}
use Rattle.pi_settling.specs.Asked.{flat_for, flat_all}
use Rattle.pi_settling.specs.Values.{ahead_of, with_value, domain_of_values, gaps_from, numbers_by}
use Rattle.pi_settling.specs.RightSide.{integers_of, right_side, domain_too_wide}
use Rattle.pi_settling.specs.Within.{kept_in, each_item, within_goal, notin_goal}

abbrev n : ℕ → Tree
n k = int (pos k)

abbrev up_to : Tree → Tree → Tree
up_to t u = comp (codes "..") (trees_of (t ∷ u ∷ []))

abbrev in_steps : Tree → Tree → Tree → Tree
in_steps t s u = comp (codes "..") (trees_of (t ∷ s ∷ u ∷ []))

abbrev span : ℕ → ℕ → Span
span lo hi = record { lo = pos lo; hi = pos hi }

abbrev a_state : Variable → Variable → State
a_state x y = record { variables = x ∷ y ∷ bound (n 7) ∷ []; constraints = []; agents = []; waiting = [] }

-- X has no domain, Y has 1..5, Z is 7
abbrev state : State
state = a_state free (within (span 1 5 ∷ []))

abbrev one_to_five : Variable
one_to_five = within (span 1 5 ∷ [])

does : Effect → Effect → Type 0
unfolding instance value rounds followed_for followed each_tree list_onto items_for list_items flat_for flat_all has_value numbers_from values_of overlap shared common ahead_of with_value domain_of_values gaps_from numbers_by integers_of right_side each_item type_error cells
does e f = e ≡ f

-- values that are one domain, whatever their order: 3, 1, 2, 7, 5, 6, 1
values : domain_of_values (pos 3 ∷ pos 1 ∷ pos 2 ∷ pos 7 ∷ pos 5 ∷ pos 6 ∷ pos 1 ∷ []) ≡ span 1 3 ∷ span 5 7 ∷ []
unfolding domain_of_values with_value ahead_of
values = refl

-- [X,{Y,Z}] :: 2..9; Z is no 1..6; Y :: [3] binds it; Y :: [9] has no answer; Y :: {3} is no list
sets : does (within_goal state (list_of (var 0 ∷ array_of (var 1 ∷ var 2 ∷ []) ∷ [])) (up_to (n 2) (n 9))) (Succeeds (a_state (within (span 2 9 ∷ [])) (within (span 2 5 ∷ []))))
    × does (within_goal state (list_of (var 1 ∷ var 2 ∷ [])) (up_to (n 1) (n 6))) Fails
    × does (within_goal state (var 1) (list_of (n 3 ∷ []))) (Succeeds (a_state free (bound (n 3))))
    × does (within_goal state (var 1) (list_of (n 9 ∷ []))) Fails
    × does (within_goal state (var 1) (array_of (n 3 ∷ []))) (Raises (type_error (codes "domain") (array_of (n 3 ∷ [])) state))
unfolding does
sets = (refl, refl, refl, refl, refl)

-- Y notin [3,2], Y notin 2..2..9, and 7 notin 1..9
lacks : does (notin_goal state (var 1) (list_of (n 3 ∷ n 2 ∷ []))) (Succeeds (a_state free (within (span 1 1 ∷ span 4 5 ∷ []))))
    × does (notin_goal state (var 1) (in_steps (n 2) (n 2) (n 9))) (Succeeds (a_state free (within (span 1 1 ∷ span 3 3 ∷ span 5 5 ∷ []))))
    × does (notin_goal state (var 2) (up_to (n 1) (n 9))) Fails
unfolding does
lacks = (refl, refl, refl)

-- The right side comes first: a :: b tells b, a :: 1..2 tells a, [X|Y] :: 1..2 tells the term that is no proper list.
judged : does (within_goal state (atom (codes "a")) (atom (codes "b"))) (Raises (type_error (codes "domain") (atom (codes "b")) state))
    × does (within_goal state (atom (codes "a")) (up_to (n 1) (n 2))) (Raises (type_error (codes "integer") (atom (codes "a")) state))
    × does (within_goal state (var 1) (up_to (n 1) (var 0))) (Raises (type_error (codes "domain") (up_to (n 1) (var 0)) state))
    × does (within_goal state (var 1) (list_of (n 1 ∷ atom (codes "a") ∷ []))) (Raises (type_error (codes "domain") (list_of (n 1 ∷ atom (codes "a") ∷ [])) state))
    × does (within_goal state (list_onto (var 1 ∷ []) (n 2)) (up_to (n 1) (n 2))) (Raises (type_error (codes "integer") (list_onto (var 1 ∷ []) (n 2)) state))
unfolding does
judged = (refl, refl, refl, refl, refl)

-- Y :: 0..2^56 is too wide, and 2^56..0 is empty, whatever its ends are; Y :: 1..0..5; Y :: 1..1..16777217, which has too many values before one of them is too wide; a list with a wide value
wide : does (within_goal state (var 1) (up_to (n 0) (n (2 ^ 56)))) (Raises domain_too_wide)
    × does (within_goal state (var 1) (up_to (n (2 ^ 56)) (n 0))) Fails
    × does (within_goal state (var 1) (in_steps (n 1) (n 0) (n 5))) (Raises bad_range)
    × does (within_goal state (var 1) (in_steps (n 1) (n 1) (n 16777217))) (Raises range_too_long)
    × does (within_goal state (var 1) (in_steps (n 0) (n (2 ^ 56)) (n (2 ^ 57 - 1)))) (Raises domain_too_wide)
    × does (within_goal state (var 1) (list_of (n 3 ∷ n (2 ^ 56) ∷ []))) (Raises domain_too_wide)
unfolding does
wide = (refl, refl, refl, refl, refl, refl)

-- `notin` passes over values that no domain can have: 2^56 notin [2^56], and Y notin 3..2^56
passed-over : does (notin_goal state (n (2 ^ 56)) (list_of (n (2 ^ 56) ∷ []))) (Succeeds state)
    × does (notin_goal state (var 1) (up_to (n 3) (n (2 ^ 56)))) (Succeeds (a_state free (within (span 1 2 ∷ []))))
unfolding does
passed-over = (refl, refl)

-- a variable that is bound stays as it is, whatever the domain
bound-stays : kept_in (span 1 3 ∷ []) state 2 ≡ Some state
bound-stays = refl
