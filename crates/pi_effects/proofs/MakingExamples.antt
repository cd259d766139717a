-- Functions that make variables, and exceptions, worked out.
use Rattle.std.proofs.Common.{◌≡◌, [], ◌∷◌, refl}
use Rattle.std.specs.Prelude.{ℕ, nat_lt, true, false, negsuc, List, Some, codes}
use Rattle.pi_terms.specs.Tree.{Tree, var, int, atom, cells, most_cells}
use Rattle.pi_terms.specs.Copy.{copy, new_variables}
use Rattle.pi_constraints.specs.State.{followed, followed_for, State, free, bound}
use Rattle.pi_effects.specs.Effect.{Gives, Refuses, Raises}
use Rattle.pi_effects.specs.Items.{list_of, array_of}
use Rattle.pi_effects.specs.Making.{new_items, new_from, copied}
use Rattle.pi_constraints.specs.Evaluation.{with_new_variables}
use Rattle.pi_effects.proofs.Worked.{a_state, n, a, b, compound, gives, does}

abbrev one : State
one = a_state (free ∷ [])

abbrev raises : List ℕ → List Tree → Tree → Type 0
raises name ts ball = gives name ts one ≡ Some (Refuses ball)

abbrev bad_index_of : Tree → Tree
bad_index_of t = compound (codes "bad_index") (t ∷ [])

pub new-variables : (gives (codes "new_list") (n 2 ∷ []) one ≡ Some (Gives (list_of (var 1 ∷ var 2 ∷ [])) (a_state (free ∷ free ∷ free ∷ []))))
    × (gives (codes "new_array") (n 1 ∷ []) one ≡ Some (Gives (array_of (var 1 ∷ [])) (a_state (free ∷ free ∷ []))))
    × (gives (codes "new_array") (n 2 ∷ n 1 ∷ []) one
    ≡ Some (Gives (array_of (array_of (var 1 ∷ []) ∷ array_of (var 2 ∷ []) ∷ [])) (a_state (free ∷ free ∷ free ∷ []))))
    × (gives (codes "new_array") (n 2 ∷ n 2 ∷ []) one
    ≡ Some (Gives (array_of (array_of (var 1 ∷ var 2 ∷ []) ∷ array_of (var 3 ∷ var 4 ∷ []) ∷ [])) (a_state (free ∷ free ∷ free ∷ free ∷ free ∷ []))))
    × (gives (codes "new_list") (n 0 ∷ []) one ≡ Some (Gives (list_of []) one))
    × (gives (codes "new_list") (var 0 ∷ []) (a_state (bound (n 1) ∷ [])) ≡ Some (Gives (list_of (var 1 ∷ [])) (a_state (bound (n 1) ∷ free ∷ []))))
unfolding gives
new-variables = (refl, refl, refl, refl, refl, refl)

-- a size that is none is told, whatever it is; then the number of items
pub wrong-sizes : raises (codes "new_list") (a ∷ []) (bad_index_of a) × raises (codes "new_list") (int (negsuc 0) ∷ []) (bad_index_of (int (negsuc 0)))
    × raises (codes "new_list") (var 0 ∷ []) (bad_index_of (var 0))
    × raises (codes "new_list") (n 16777217 ∷ []) (atom (codes "range_too_long"))
    × raises (codes "new_array") (n 4097 ∷ n 4097 ∷ []) (atom (codes "range_too_long"))
    × raises (codes "new_array") (n 1 ∷ b ∷ []) (bad_index_of b)
unfolding gives
wrong-sizes = (refl, refl, refl, refl, refl, refl)

-- a copy has new variables, one for each, and no bindings
pub copies : gives (codes "copy_term") (compound (codes "f") (var 1 ∷ var 0 ∷ var 1 ∷ var 2 ∷ []) ∷ []) (a_state (free ∷ free ∷ bound (n 7) ∷ []))
    ≡ Some (Gives (compound (codes "f") (var 3 ∷ var 4 ∷ var 3 ∷ n 7 ∷ [])) (a_state (free ∷ free ∷ bound (n 7) ∷ free ∷ free ∷ [])))
unfolding gives
copies = refl

-- what is thrown is a copy whose variables are numbered from 0
pub thrown-copies : does (codes "throw") (compound (codes "f") (var 1 ∷ var 0 ∷ []) ∷ []) (a_state (free ∷ free ∷ []))
    ≡ Some (Raises (compound (codes "f") (var 0 ∷ var 1 ∷ [])))
unfolding does
thrown-copies = refl

-- as many new variables as there may be at most, and one more
pub new-at_most : (new_items array_of one (n 16777216) ≡ Gives (array_of (new_from 1 16777216)) (with_new_variables 16777216 one))
    × (new_items array_of one (n 16777217) ≡ Refuses (atom (codes "range_too_long")))
unfolding followed followed_for
new-at_most = (refl, refl)

-- a term past the limit has no copy, and one at it has
pub copy-at_most : (t : Tree) → ((nat_lt most_cells (cells t) ≡ true) → copied one t ≡ Refuses (atom (codes "term_too_large")))
    × ((nat_lt most_cells (cells t) ≡ false) → copied one t ≡ Gives (copy 1 t) (with_new_variables (new_variables t) one))
copy-at_most t = (λ past. rw past refl, λ within. rw within refl)
