-- Sorting, worked out.
use Rattle.std.proofs.Common.{◌≡◌, [], ◌∷◌, refl}
use Rattle.std.specs.Prelude.{ℕ, List, Some, codes}
use Rattle.pi_terms.specs.Tree.{Tree, var}
use Rattle.pi_constraints.specs.State.{State, bound, empty_state}
use Rattle.pi_effects.specs.Effect.{Gives, Refuses}
use Rattle.pi_effects.specs.Items.{list_of, array_of}
use Rattle.pi_effects.proofs.Worked.{a_state, n, a, b, compound, raised_type, gives}

abbrev gives_term : List ℕ → Tree → Tree → Type 0
gives_term name t u = gives name (t ∷ []) empty_state ≡ Some (Gives u empty_state)

abbrev raises : List ℕ → Tree → Tree → Type 0
raises name t ball = gives name (t ∷ []) empty_state ≡ Some (Refuses ball)

abbrev mixed : Tree
mixed = list_of (b ∷ n 3 ∷ a ∷ n 3 ∷ b ∷ n 1 ∷ [])

pub sorting : gives_term (codes "sort") mixed (list_of (n 1 ∷ n 3 ∷ n 3 ∷ a ∷ b ∷ b ∷ []))
    × gives_term (codes "sort_remove_dups") mixed (list_of (n 1 ∷ n 3 ∷ a ∷ b ∷ []))
    × gives_term (codes "remove_dups") mixed (list_of (b ∷ n 3 ∷ a ∷ n 1 ∷ []))
    × raises (codes "sort") (array_of []) (raised_type (codes "list") (array_of []))
    × raises (codes "sort_remove_dups") (array_of []) (raised_type (codes "list") (array_of []))
    × raises (codes "remove_dups") a (raised_type (codes "list") a)
unfolding gives
sorting = (refl, refl, refl, refl, refl, refl)

-- of items with one value the one that stands first stays, and sorted ones stay in their order
pub first-stays : (gives (codes "remove_dups") (list_of (var 0 ∷ n 5 ∷ []) ∷ []) (a_state (bound (n 5) ∷ []))
    ≡ Some (Gives (list_of (var 0 ∷ [])) (a_state (bound (n 5) ∷ []))))
    × (gives (codes "sort") (list_of (n 5 ∷ var 0 ∷ n 4 ∷ []) ∷ []) (a_state (bound (n 5) ∷ []))
    ≡ Some (Gives (list_of (n 4 ∷ n 5 ∷ var 0 ∷ [])) (a_state (bound (n 5) ∷ []))))
unfolding gives
first-stays = (refl, refl)

pub least-and_greatest : gives_term (codes "min") mixed (n 1) × gives_term (codes "max") mixed b × gives_term (codes "min") (array_of (a ∷ n 2 ∷ [])) (n 2)
    × raises (codes "min") (list_of []) (compound (codes "bad_index") (n 1 ∷ [])) × raises (codes "max") (array_of []) (compound (codes "bad_index") (n 1 ∷ []))
    × raises (codes "min") a (raised_type (codes "collection") a) × raises (codes "max") a (raised_type (codes "collection") a)
unfolding gives
least-and_greatest = (refl, refl, refl, refl, refl, refl, refl)

-- of items with one value the one that stands first is the least, and the greatest; and the list may be a bound variable
abbrev given : State
given = a_state (bound (n 5) ∷ bound (list_of (b ∷ var 0 ∷ n 5 ∷ [])) ∷ [])

abbrev gives_there : List ℕ → Tree → Tree → Type 0
gives_there name t u = gives name (t ∷ []) given ≡ Some (Gives u given)

pub bound-lists : gives_there (codes "min") (var 1) (var 0) × gives_there (codes "max") (list_of (n 5 ∷ var 0 ∷ [])) (n 5) × gives_there (codes "sort") (var 1) (list_of (var 0 ∷ n 5 ∷ b ∷ []))
    × gives_there (codes "sort_remove_dups") (var 1) (list_of (var 0 ∷ b ∷ []))
unfolding gives
bound-lists = (refl, refl, refl, refl)
