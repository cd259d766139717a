-- Functions on lists and arrays, indexing, ranges and names, worked out.
use Rattle.std.proofs.Common.{◌≡◌, [], ◌∷◌, refl}
use Rattle.std.specs.Prelude.{ℕ, ◌^◌, ◌-◌, pos, negsuc, List, Some, codes, Ok, Err}
use Rattle.pi_terms.specs.Tree.{Tree, var, int, atom}
use Rattle.pi_constraints.specs.State.{State, free, bound, empty_state}
use Rattle.pi_effects.specs.Effect.{Gives, Refuses}
use Rattle.pi_effects.specs.Items.{list_of, list_onto, array_of}
use Rattle.pi_effects.specs.Ranges.{range, values_by}
use Rattle.pi_effects.proofs.Worked.{a_state, n, a, b, compound, raised_type, gives}

abbrev gives_term : List ℕ → List Tree → Tree → Type 0
gives_term name ts t = gives name ts empty_state ≡ Some (Gives t empty_state)

abbrev raises : List ℕ → List Tree → Tree → Type 0
raises name ts ball = gives name ts empty_state ≡ Some (Refuses ball)

abbrev bad_index_of : Tree → Tree
bad_index_of t = compound (codes "bad_index") (t ∷ [])

abbrev ab : Tree
ab = list_of (a ∷ b ∷ [])

abbrev one_two : Tree
one_two = array_of (n 1 ∷ n 2 ∷ [])

abbrev open_list : Tree
open_list = list_onto (n 1 ∷ []) (var 0)

pub lengths : gives_term (codes "length") (ab ∷ []) (n 2) × gives_term (codes "len") (one_two ∷ []) (n 2) × gives_term (codes "length") (list_of [] ∷ []) (n 0)
    × gives_term (codes "length") (array_of [] ∷ []) (n 0)
    × raises (codes "length") (a ∷ []) (raised_type (codes "collection") a)
    × raises (codes "len") (open_list ∷ []) (raised_type (codes "collection") open_list)
unfolding gives
lengths = (refl, refl, refl, refl, refl, refl)

-- a list whose rest is unbound is no proper list; arrays have no head
pub heads : gives_term (codes "head") (ab ∷ []) a × gives_term (codes "tail") (ab ∷ []) (list_of (b ∷ []))
    × raises (codes "head") (list_of [] ∷ []) (raised_type (codes "list") (list_of []))
    × raises (codes "tail") (list_of [] ∷ []) (raised_type (codes "list") (list_of []))
    × raises (codes "head") (open_list ∷ []) (raised_type (codes "list") open_list)
    × raises (codes "head") (one_two ∷ []) (raised_type (codes "list") one_two)
unfolding gives
heads = (refl, refl, refl, refl, refl, refl)

-- parts stay as they stand, with bound variables in them
pub parts-stand : gives (codes "tail") (list_onto (a ∷ []) (var 0) ∷ []) (a_state (bound (list_of []) ∷ []))
    ≡ Some (Gives (var 0) (a_state (bound (list_of []) ∷ [])))
unfolding gives
parts-stand = refl

pub ends : gives_term (codes "first") (ab ∷ []) a × gives_term (codes "last") (one_two ∷ []) (n 2)
    × raises (codes "first") (array_of [] ∷ []) (bad_index_of (n 1)) × raises (codes "last") (list_of [] ∷ []) (bad_index_of (n 1))
    × raises (codes "first") (n 3 ∷ []) (raised_type (codes "collection") (n 3)) × raises (codes "last") (n 3 ∷ []) (raised_type (codes "collection") (n 3))
unfolding gives
ends = (refl, refl, refl, refl, refl, refl)

pub lists-made : gives_term (codes "reverse") (ab ∷ []) (list_of (b ∷ a ∷ [])) × gives_term (codes "++") (ab ∷ list_of (n 1 ∷ []) ∷ []) (list_of (a ∷ b ∷ n 1 ∷ []))
    × gives_term (codes "delete_all") (list_of (a ∷ b ∷ a ∷ []) ∷ a ∷ []) (list_of (b ∷ []))
    × gives_term (codes "zip") (ab ∷ list_of (n 1 ∷ n 2 ∷ n 3 ∷ []) ∷ []) (list_of (array_of (a ∷ n 1 ∷ []) ∷ array_of (b ∷ n 2 ∷ []) ∷ []))
    × gives_term (codes "to_list") (one_two ∷ []) (list_of (n 1 ∷ n 2 ∷ [])) × gives_term (codes "to_array") (ab ∷ []) (array_of (a ∷ b ∷ []))
    × raises (codes "reverse") (one_two ∷ []) (raised_type (codes "list") one_two)
    × raises (codes "++") (a ∷ b ∷ []) (raised_type (codes "list") a) × raises (codes "++") (ab ∷ b ∷ []) (raised_type (codes "list") b)
    × raises (codes "zip") (ab ∷ one_two ∷ []) (raised_type (codes "list") one_two) × raises (codes "delete_all") (one_two ∷ a ∷ []) (raised_type (codes "list") one_two)
    × raises (codes "to_list") (a ∷ []) (raised_type (codes "collection") a) × raises (codes "to_array") (open_list ∷ []) (raised_type (codes "collection") open_list)
unfolding gives
lists-made = (refl, refl, refl, refl, refl, refl, refl, refl, refl, refl, refl, refl, refl)

-- `delete_all` binds nothing: a variable is the same as itself alone
pub deleting-binds_nothing : gives (codes "delete_all") (list_of (var 0 ∷ a ∷ []) ∷ var 0 ∷ []) (a_state (free ∷ []))
    ≡ Some (Gives (list_of (a ∷ [])) (a_state (free ∷ [])))
unfolding gives
deleting-binds_nothing = refl

-- the first fault from the left counts
pub totals : gives_term (codes "sum") (list_of [] ∷ []) (n 0) × gives_term (codes "prod") (array_of [] ∷ []) (n 1)
    × gives_term (codes "sum") (one_two ∷ []) (n 3) × gives_term (codes "prod") (list_of (n 2 ∷ n 3 ∷ n 4 ∷ []) ∷ []) (n 24)
    × raises (codes "sum") (list_of (n 1 ∷ a ∷ b ∷ []) ∷ []) (raised_type (codes "integer") a)
    × raises (codes "sum") (list_of (int (pos (2 ^ 127 - 1)) ∷ n 1 ∷ a ∷ []) ∷ []) (atom (codes "integer_overflow"))
    × raises (codes "sum") (list_of (int (pos (2 ^ 127 - 1)) ∷ a ∷ n 1 ∷ []) ∷ []) (raised_type (codes "integer") a)
    × raises (codes "prod") (list_of (int (pos (2 ^ 126)) ∷ n 2 ∷ a ∷ []) ∷ []) (atom (codes "integer_overflow"))
    × raises (codes "prod") (list_of (n 2 ∷ a ∷ []) ∷ []) (raised_type (codes "integer") a)
    × raises (codes "prod") (a ∷ []) (raised_type (codes "collection") a)
unfolding gives
totals = (refl, refl, refl, refl, refl, refl, refl, refl, refl, refl)

-- X[I]: what X is comes first, then the index
pub indexes : gives_term (codes "in") (ab ∷ n 1 ∷ []) a × gives_term (codes "in") (one_two ∷ n 2 ∷ []) (n 2)
    × gives_term (codes "in") (compound (codes "f") (a ∷ b ∷ []) ∷ n 2 ∷ []) b
    × raises (codes "in") (ab ∷ n 0 ∷ []) (bad_index_of (n 0)) × raises (codes "in") (ab ∷ n 3 ∷ []) (bad_index_of (n 3))
    × raises (codes "in") (list_of [] ∷ n 1 ∷ []) (bad_index_of (n 1))
    × raises (codes "in") (ab ∷ int (negsuc 0) ∷ []) (bad_index_of (int (negsuc 0)))
    × raises (codes "in") (a ∷ b ∷ []) (raised_type (codes "list") a) × raises (codes "in") (open_list ∷ n 1 ∷ []) (raised_type (codes "list") open_list)
    × raises (codes "in") (ab ∷ b ∷ []) (raised_type (codes "integer") b)
unfolding gives
indexes = (refl, refl, refl, refl, refl, refl, refl, refl, refl, refl)

pub ranges : gives_term (codes "..") (n 1 ∷ n 3 ∷ []) (list_of (n 1 ∷ n 2 ∷ n 3 ∷ [])) × gives_term (codes "..") (n 3 ∷ n 1 ∷ []) (list_of [])
    × gives_term (codes "..") (n 1 ∷ n 2 ∷ n 6 ∷ []) (list_of (n 1 ∷ n 3 ∷ n 5 ∷ []))
    × gives_term (codes "..") (n 1 ∷ int (negsuc 1) ∷ int (negsuc 3) ∷ []) (list_of (n 1 ∷ int (negsuc 0) ∷ int (negsuc 2) ∷ []))
    × raises (codes "..") (n 1 ∷ n 0 ∷ n 1 ∷ []) (atom (codes "bad_range"))
    × raises (codes "..") (n 1 ∷ n 16777217 ∷ []) (atom (codes "range_too_long"))
    × raises (codes "..") (int (pos (2 ^ 127)) ∷ int (pos (2 ^ 127)) ∷ []) (atom (codes "integer_overflow"))
    × raises (codes "..") (n 1 ∷ a ∷ b ∷ []) (raised_type (codes "integer") a)
unfolding gives
ranges = (refl, refl, refl, refl, refl, refl, refl, refl)

pub names : gives_term (codes "name") (compound (codes "f") (a ∷ []) ∷ []) (atom (codes "f")) × gives_term (codes "arity") (compound (codes "f") (a ∷ []) ∷ []) (n 1)
    × gives_term (codes "name") (a ∷ []) a × gives_term (codes "arity") (a ∷ []) (n 0)
    × gives_term (codes "name") (ab ∷ []) (atom (codes "[|]")) × gives_term (codes "name") (one_two ∷ []) (atom (codes "{}"))
    × raises (codes "name") (n 1 ∷ []) (raised_type (codes "callable") (n 1)) × raises (codes "arity") (var 3 ∷ []) (raised_type (codes "callable") (var 0))
unfolding gives
names = (refl, refl, refl, refl, refl, refl, refl, refl)

-- as many values as a range has at most, and one more
pub range-at_most : (range (pos 1) (pos 1) (pos 16777216) ≡ Ok (list_of (values_by 16777216 (pos 1) (pos 1))))
    × (range (pos 1) (pos 1) (pos 16777217) ≡ Err (atom (codes "range_too_long")))
range-at_most = (refl, refl)

-- ---- a bound variable counts as what it is bound to, as an argument and as an item

abbrev given : State
given = a_state (bound ab ∷ bound (n 2) ∷ bound (atom (codes "f")) ∷ [])

abbrev gives_there : List ℕ → List Tree → Tree → Type 0
gives_there name ts t = gives name ts given ≡ Some (Gives t given)

pub bound-lists : gives_there (codes "length") (var 0 ∷ []) (n 2) × gives_there (codes "head") (var 0 ∷ []) a × gives_there (codes "tail") (var 0 ∷ []) (list_of (b ∷ []))
    × gives_there (codes "first") (var 0 ∷ []) a × gives_there (codes "last") (var 0 ∷ []) b × gives_there (codes "reverse") (var 0 ∷ []) (list_of (b ∷ a ∷ []))
    × gives_there (codes "++") (var 0 ∷ var 0 ∷ []) (list_onto (a ∷ b ∷ []) (var 0))
    × gives_there (codes "delete_all") (var 0 ∷ a ∷ []) (list_of (b ∷ [])) × gives_there (codes "delete_all") (list_of (var 1 ∷ a ∷ []) ∷ n 2 ∷ []) (list_of (a ∷ []))
    × gives_there (codes "zip") (var 0 ∷ var 0 ∷ []) (list_of (array_of (a ∷ a ∷ []) ∷ array_of (b ∷ b ∷ []) ∷ []))
    × gives_there (codes "to_list") (var 0 ∷ []) ab × gives_there (codes "to_array") (var 0 ∷ []) (array_of (a ∷ b ∷ []))
    × gives_there (codes "sum") (list_of (n 1 ∷ var 1 ∷ []) ∷ []) (n 3) × gives_there (codes "prod") (array_of (n 5 ∷ var 1 ∷ []) ∷ []) (n 10)
unfolding gives
bound-lists = (refl, refl, refl, refl, refl, refl, refl, refl, refl, refl, refl, refl, refl, refl)

pub bound-others : gives_there (codes "in") (var 0 ∷ var 1 ∷ []) b × gives_there (codes "..") (n 1 ∷ var 1 ∷ []) (list_of (n 1 ∷ n 2 ∷ []))
    × gives_there (codes "..") (n 1 ∷ var 1 ∷ n 4 ∷ []) (list_of (n 1 ∷ n 3 ∷ [])) × gives_there (codes "name") (var 2 ∷ []) (atom (codes "f"))
    × gives_there (codes "arity") (var 0 ∷ []) (n 2)
unfolding gives
bound-others = (refl, refl, refl, refl, refl)
