-- What goals that post constraints leave, worked through the definitions.
use Rattle.std.specs.Prelude.{◌≡◌, ℕ, pos, negsuc, List, [], ◌∷◌, codes, refl}
use Rattle.pi_terms.specs.Tree.{Tree, var, int, atom, comp, trees_of, cells}
use Rattle.pi_terms.specs.Substitution.{instance}
use Rattle.pi_terms.specs.Copy.{copy}
use Rattle.pi_constraints.specs.declared.constraint.Item.{Item}
use Rattle.pi_constraints.specs.declared.constraint.Rel.{Rel}
use Rattle.pi_constraints.specs.declared.constraint.Constraint.{Constraint}
use Rattle.pi_prop_spec.specs.Places.{sum_places}
use Rattle.pi_constraints.specs.Value.{value, rounds}
use Rattle.pi_constraints.specs.State.{State, Variable, free, within, bound, followed_for, followed}
use Rattle.pi_constraints.specs.Evaluation.{with_new_variables}
use Rattle.pi_effects.specs.Effect.{Succeeds, Raises}
use Rattle.pi_effects.specs.Exception.{exception_with}
use Rattle.pi_settling.specs.Roots.{all_values}
use Rattle.pi_settling.specs.Confined.{confined}
use Rattle.pi_settling.specs.Reading.{reads}
use Rattle.pi_prop_spec.specs.Terms.{operand_of, operands_of, operands_of_array, operands_of_list, comparison_named, connective_named, boolean_of, goal_of}
use Rattle.pi_prop_spec.specs.PostingSums.{with_term, with_terms, scaled_terms}
use Rattle.pi_prop_spec.specs.Steps.{have_128_bits, read_operand, read_items}
use Rattle.pi_prop_spec.specs.Relations.{read_relation}
use Rattle.pi_prop_spec.specs.Limits.{are_narrow, are_values, first_refusal}
use Rattle.pi_settling.specs.Posted.{with_constraints, places_of_all, posting_goal}
use Rattle.pi_settling.specs.Read.{operand_in}

abbrev two : List ℕ → Tree → Tree → Tree
two name t u = comp name (trees_of (t ∷ u ∷ []))

abbrev state : List Variable → List Constraint → State
state vs cs = record { variables = vs; constraints = cs; agents = []; waiting = [] }

abbrev one_to_nine : Variable
one_to_nine = within (record { lo = pos 1; hi = pos 9 } ∷ [])

-- X has 1..9, Y is bound to X*Z, and Z has no domain
abbrev before : State
before = state (one_to_nine ∷ bound (two (codes "*") (var 0) (var 2)) ∷ free ∷ []) []

-- Y #= 6: the value of Y is an operand. A new variable is the product, and it and Z get all values. With Y #= a nothing is posted.
posted : (posting_goal before (two (codes "#=") (var 1) (int (pos 6)))
    ≡ Succeeds (state (one_to_nine ∷ bound (two (codes "*") (var 0) (var 2)) ∷ within all_values ∷ within all_values ∷ [])
    (Constraint.Product (Item.Var 3) (Item.Var 0) (Item.Var 2) ∷ Constraint.Linear Rel.Equal ((pos 1, 3) ∷ []) (negsuc 5) ∷ [])))
    × (posting_goal before (two (codes "#=") (var 1) (atom (codes "a"))) ≡ Raises (comp (codes "not_a_constraint") (trees_of (atom (codes "a") ∷ []))))
unfolding operand_of operands_of operands_of_array operands_of_list comparison_named connective_named boolean_of goal_of with_term with_terms scaled_terms have_128_bits read_operand read_items read_relation are_narrow are_values first_refusal instance value rounds followed followed_for cells with_new_variables confined with_constraints places_of_all sum_places exception_with copy
posted = (refl, refl)

-- the objective $min(Y + 1)
read : operand_in (two (codes "+") (var 1) (int (pos 1))) before
    ≡ reads (state (one_to_nine ∷ bound (two (codes "*") (var 0) (var 2)) ∷ within all_values ∷ within all_values ∷ []) (Constraint.Product (Item.Var 3) (Item.Var 0) (Item.Var 2) ∷ []))
    (record { terms = (pos 1, 3) ∷ []; constant = pos 1 })
unfolding operand_of operands_of operands_of_array operands_of_list with_term with_terms scaled_terms have_128_bits read_operand read_items are_narrow are_values first_refusal instance value rounds followed followed_for cells with_new_variables confined with_constraints places_of_all sum_places
read = refl
