-- Functions that programs are lowered to, worked out.
use Rattle.std.proofs.Common.{◌≡◌, [], ◌∷◌, refl}
use Rattle.std.specs.Prelude.{ℕ, ◌^◌, ◌-◌, pos, negsuc, List, Some, codes}
use Rattle.pi_terms.specs.Tree.{Tree, var, int, atom}
use Rattle.pi_constraints.specs.State.{State, free, bound, empty_state}
use Rattle.pi_effects.specs.Effect.{Gives, Refuses}
use Rattle.pi_effects.specs.Items.{list_of, list_onto, array_of}
use Rattle.pi_effects.proofs.Worked.{a_state, n, a, b, compound, raised_type, gives}

abbrev gives_term : List ℕ → List Tree → Tree → Type 0
gives_term name ts t = gives name ts empty_state ≡ Some (Gives t empty_state)

abbrev raises : List ℕ → List Tree → Tree → Type 0
raises name ts ball = gives name ts empty_state ≡ Some (Refuses ball)

abbrev ab : Tree
ab = list_of (a ∷ b ∷ [])

abbrev open_list : Tree
open_list = list_onto (n 1 ∷ []) (var 0)

-- 0 is bound to a list, 1 to 2, 2 to an array, and 3 isn't bound
abbrev given : State
given = a_state (bound ab ∷ bound (n 2) ∷ bound (array_of (var 1 ∷ n 6 ∷ [])) ∷ free ∷ [])

abbrev gives_there : List ℕ → List Tree → Tree → Type 0
gives_there name ts t = gives name ts given ≡ Some (Gives t given)

abbrev once_of : Tree → Tree → Type 0
once_of t r = gives_there (codes "once") (t ∷ []) r

-- a variable too, bound or not, and a list that has no end
pub themselves : once_of (n 1) (n 1) × once_of ab ab × once_of (var 0) (var 0) × once_of (var 3) (var 3) × once_of (list_onto (a ∷ []) (var 3)) (list_onto (a ∷ []) (var 3))
unfolding gives
themselves = (refl, refl, refl, refl, refl)

abbrev not_of : Tree → Tree → Type 0
not_of t r = gives_there (codes "not") (t ∷ []) r

-- items stay as they stand; a list that has no end, an array and any other term have none
pub in-order : not_of (list_of []) (list_of []) × not_of (list_of (a ∷ var 1 ∷ var 3 ∷ [])) (list_of (var 3 ∷ var 1 ∷ a ∷ [])) × not_of (var 0) (list_of (b ∷ a ∷ []))
    × not_of (list_onto (n 1 ∷ []) (var 0)) (list_of (b ∷ a ∷ n 1 ∷ [])) × not_of (list_onto (a ∷ []) (var 3)) (list_of []) × not_of (list_onto (a ∷ []) (n 1)) (list_of [])
    × not_of (var 3) (list_of []) × not_of (var 2) (list_of []) × not_of a (list_of []) × not_of (n 1) (list_of [])
unfolding gives
in-order = (refl, refl, refl, refl, refl, refl, refl, refl, refl, refl)

abbrev by : Tree → Tree → Tree
by step last = array_of (step ∷ last ∷ [])

abbrev count_of : Tree → Tree → Tree → Tree → Type 0
count_of low step last r = gives_term (codes ":=") (low ∷ by step last ∷ []) r

abbrev count_raises : Tree → Tree → Tree → Type 0
count_raises low rest ball = raises (codes ":=") (low ∷ rest ∷ []) ball

pub counts : count_of (n 1) (n 1) (n 3) (n 3) × count_of (n 3) (n 1) (n 1) (n 0) × count_of (n 1) (n 2) (n 6) (n 3) × count_of (n 4) (n 9) (n 4) (n 1)
    × count_of (n 1) (int (negsuc 1)) (int (negsuc 3)) (n 3) × count_of (n 1) (int (negsuc 0)) (n 2) (n 0)
    × count_of (n 1) (n 1) (n 16777216) (n 16777216) × count_of (int (negsuc (2 ^ 127 - 1))) (int (pos (2 ^ 127 - 1))) (int (pos (2 ^ 127 - 1))) (n 3)
    × gives_there (codes ":=") (var 1 ∷ var 2 ∷ []) (n 3)
unfolding gives
counts = (refl, refl, refl, refl, refl, refl, refl, refl, refl)

-- as of the range: numbers in their order, a step of 0, too many; an array that isn't there is told behind the first number
pub counts-raise : count_raises a (by b b) (raised_type (codes "integer") a) × count_raises (n 1) (by b a) (raised_type (codes "integer") b)
    × count_raises (n 1) (by (n 0) a) (raised_type (codes "integer") a) × count_raises (n 1) (by (n 0) (n 1)) (atom (codes "bad_range"))
    × count_raises (n 1) (by (n 0) (n 0)) (atom (codes "bad_range")) × count_raises (n 1) (by (n 1) (n 16777217)) (atom (codes "range_too_long"))
    × count_raises (int (negsuc (2 ^ 127 - 1))) (by (n 1) (int (pos (2 ^ 127 - 1)))) (atom (codes "range_too_long"))
    × count_raises (int (negsuc (2 ^ 127))) (by (n 1) (n 0)) (atom (codes "range_too_long")) × count_raises (int (pos (2 ^ 127))) (by (n 1) (int (pos (2 ^ 127)))) (atom (codes "integer_overflow"))
    × count_raises a b (raised_type (codes "integer") a) × count_raises (n 1) b (raised_type (codes "array") b) × count_raises (n 1) ab (raised_type (codes "array") ab)
    × count_raises (n 1) (array_of (n 1 ∷ [])) (raised_type (codes "array") (array_of (n 1 ∷ []))) × count_raises (n 1) open_list (raised_type (codes "array") open_list)
    × count_raises (n 1) (compound (codes "f") (n 1 ∷ n 2 ∷ [])) (raised_type (codes "array") (compound (codes "f") (n 1 ∷ n 2 ∷ [])))
    × count_raises (n 1) (var 0) (raised_type (codes "array") (var 0))
unfolding gives
counts-raise = (refl, refl, refl, refl, refl, refl, refl, refl, refl, refl, refl, refl, refl, refl, refl, refl)
