-- Goals of constraints by their names, and functions of domains, worked through the definitions.
use Rattle.std.specs.Prelude.{◌≡◌, ℕ, zero, suc, pos, negsuc, List, [], ◌∷◌, Option, Some, None, codes, true, false, refl}
use Rattle.std.specs.Int.{int_gap}
use Rattle.pi_terms.specs.Tree.{Tree, var, int, atom, comp, trees_of, cells}
use Rattle.pi_terms.specs.Substitution.{instance}
use Rattle.pi_terms.specs.Copy.{copy}
use Rattle.pi_constraints.specs.Domain.{numbers_from, values_of}
use Rattle.pi_constraints.specs.Value.{value, rounds}
use Rattle.pi_constraints.specs.State.{State, Variable, free, within, bound, followed_for, followed}
use Rattle.pi_prop_spec.specs.Ends.{greatest_of}
use Rattle.pi_effects.specs.Effect.{FunctionEffect, Gives, Refuses}
use Rattle.pi_effects.specs.Exception.{type_error, range_too_long}
use Rattle.pi_effects.specs.Items.{list_onto, list_of}
use Rattle.pi_effects.specs.Rows.{done_by, has_line}
use Rattle.pi_settling.specs.DomainValues.{domain_functions, domain_function, is_domain_function}
use Rattle.pi_settling.specs.Goals.{constraint_goals, constraint_effect, is_constraint_goal}
use Rattle.pi_settling.specs.Within.{within_goal, notin_goal}
use Rattle.pi_settling.specs.Posted.{posting_goal}

-- X has -1, 3, 4 and 5, Y is bound to X, Z has no domain
abbrev state : State
state = record {
  variables = within (record { lo = negsuc 0; hi = negsuc 0 } ∷ record { lo = pos 3; hi = pos 5 } ∷ []) ∷ bound (var 0) ∷ free ∷ [];
  constraints = [];
  agents = [];
  waiting = [];
}

gives : List ℕ → Tree → FunctionEffect → Type 0
unfolding domain_functions done_by instance value rounds followed_for followed numbers_from values_of greatest_of list_onto type_error copy cells
gives name t e = domain_function name (trees_of (t ∷ [])) state ≡ Some e

ends : gives (codes "fd_min") (var 1) (Gives (int (negsuc 0)) state) × gives (codes "fd_max") (var 1) (Gives (int (pos 5)) state)
unfolding gives
ends = (refl, refl)

values : gives (codes "fd_size") (var 0) (Gives (int (pos 4)) state)
    × gives (codes "fd_dom") (var 1) (Gives (list_of (int (negsuc 0) ∷ int (pos 3) ∷ int (pos 4) ∷ int (pos 5) ∷ [])) state)
unfolding gives
values = (refl, refl)

-- an integer has itself alone
of-an-integer : gives (codes "fd_size") (int (pos 7)) (Gives (int (pos 1)) state) × gives (codes "fd_dom") (int (pos 7)) (Gives (list_of (int (pos 7) ∷ [])) state)
unfolding gives
of-an-integer = (refl, refl)

-- a variable without a domain, and an atom
refused : gives (codes "fd_min") (var 2) (Refuses (type_error (codes "domain") (var 2) state))
    × gives (codes "fd_dom") (atom (codes "a")) (Refuses (type_error (codes "domain") (atom (codes "a")) state))
unfolding gives
refused = (refl, refl)

-- which is which: a name counts with its number of arguments
named : (is_constraint_goal (codes "#=<") 2 ≡ true) × (is_constraint_goal (codes "element") 3 ≡ true) × (is_constraint_goal (codes "#~") 2 ≡ false)
    × (is_domain_function (codes "fd_dom") 1 ≡ true) × (is_domain_function (codes "fd_dom") 2 ≡ false)
unfolding has_line constraint_goals domain_functions
named = (refl, refl, refl, refl, refl)

goals : (s : State) (t u v : Tree) →
    (constraint_effect (codes "::") (trees_of (t ∷ u ∷ [])) s ≡ Some (within_goal s t u))
    × (constraint_effect (codes "notin") (trees_of (t ∷ u ∷ [])) s ≡ Some (notin_goal s t u))
    × (constraint_effect (codes "#>=") (trees_of (t ∷ u ∷ [])) s ≡ Some (posting_goal s (comp (codes "#>=") (trees_of (t ∷ u ∷ [])))))
    × (constraint_effect (codes "element") (trees_of (t ∷ u ∷ v ∷ [])) s ≡ Some (posting_goal s (comp (codes "element") (trees_of (t ∷ u ∷ v ∷ [])))))
    × (constraint_effect (codes "element") (trees_of (t ∷ u ∷ [])) s ≡ None)
unfolding done_by constraint_goals
goals s t u v = (refl, refl, refl, refl, refl)
