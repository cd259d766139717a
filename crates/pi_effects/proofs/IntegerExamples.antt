-- Functions on integers, worked out.
use Rattle.std.proofs.Common.{◌≡◌, [], ◌∷◌, refl}
use Rattle.std.specs.Prelude.{ℕ, ◌^◌, ◌-◌, ℤ, pos, negsuc, neg_ℤ, List, Some, None, codes}
use Rattle.pi_terms.specs.Tree.{Tree, var, int, atom}
use Rattle.pi_constraints.specs.State.{bound, empty_state}
use Rattle.pi_effects.specs.Effect.{Gives, Refuses}
use Rattle.pi_effects.proofs.Worked.{a_state, n, a, raised_type, gives}

-- what a function of integers gives in the empty state
abbrev comes_to : List ℕ → List Tree → ℤ → Type 0
comes_to name ts z = gives name ts empty_state ≡ Some (Gives (int z) empty_state)

abbrev raises : List ℕ → List Tree → Tree → Type 0
raises name ts ball = gives name ts empty_state ≡ Some (Refuses ball)

abbrev minus : ℕ → Tree
minus k = int (neg_ℤ (pos k))

-- A = -7 // 2, B = -7 /< 2, C = -7 /> 2, D = -7 mod 3, E = -7 rem 3; and 7 div 2
pub quotients : comes_to (codes "//") (minus 7 ∷ n 2 ∷ []) (negsuc 2)
    × comes_to (codes "/<") (minus 7 ∷ n 2 ∷ []) (negsuc 3)
    × comes_to (codes "/>") (minus 7 ∷ n 2 ∷ []) (negsuc 2)
    × comes_to (codes "mod") (minus 7 ∷ n 3 ∷ []) (pos 2)
    × comes_to (codes "rem") (minus 7 ∷ n 3 ∷ []) (negsuc 0)
    × comes_to (codes "div") (n 7 ∷ n 2 ∷ []) (pos 3)
    × raises (codes "//") (n 1 ∷ n 0 ∷ []) (atom (codes "zero_divisor"))
unfolding gives
quotients = (refl, refl, refl, refl, refl, refl, refl)

-- each goes its own way: 7 // 2, 7 /> 2, 7 // -2, 7 /< -2, -7 div 2
pub roundings : comes_to (codes "//") (n 7 ∷ n 2 ∷ []) (pos 3)
    × comes_to (codes "/>") (n 7 ∷ n 2 ∷ []) (pos 4)
    × comes_to (codes "//") (n 7 ∷ minus 2 ∷ []) (negsuc 2)
    × comes_to (codes "/<") (n 7 ∷ minus 2 ∷ []) (negsuc 3)
    × comes_to (codes "div") (minus 7 ∷ n 2 ∷ []) (negsuc 3)
unfolding gives
roundings = (refl, refl, refl, refl, refl)

abbrev zero_divisor_of : List ℕ → Type 0
zero_divisor_of name = raises name (n 1 ∷ n 0 ∷ []) (atom (codes "zero_divisor"))

pub zero-divisors : zero_divisor_of (codes "/<") × zero_divisor_of (codes "div") × zero_divisor_of (codes "/>") × zero_divisor_of (codes "mod") × zero_divisor_of (codes "rem")
unfolding gives
zero-divisors = (refl, refl, refl, refl, refl)

-- -2^127 divided by -1 is past the range, and what is left is 0
pub at-the_least : raises (codes "//") (minus (2 ^ 127) ∷ minus 1 ∷ []) (atom (codes "integer_overflow"))
    × comes_to (codes "rem") (minus (2 ^ 127) ∷ minus 1 ∷ []) (pos 0)
    × comes_to (codes "mod") (minus (2 ^ 127) ∷ minus 1 ∷ []) (pos 0)
    × raises (codes "abs") (minus (2 ^ 127) ∷ []) (atom (codes "integer_overflow"))
unfolding gives
at-the_least = (refl, refl, refl, refl)

-- X = -(2**126)*2 is the least integer, and one less is past the range
pub ends : comes_to (codes "**") (n 2 ∷ n 126 ∷ []) (pos (2 ^ 126))
    × comes_to (codes "*") (minus (2 ^ 126) ∷ n 2 ∷ []) (neg_ℤ (pos (2 ^ 127)))
    × raises (codes "-") (minus (2 ^ 127) ∷ n 1 ∷ []) (atom (codes "integer_overflow"))
    × raises (codes "+") (int (pos (2 ^ 127 - 1)) ∷ n 1 ∷ []) (atom (codes "integer_overflow"))
unfolding gives
ends = (refl, refl, refl, refl)

pub past-the_range : raises (codes "*") (int (pos (2 ^ 126)) ∷ n 2 ∷ []) (atom (codes "integer_overflow"))
    × raises (codes "**") (n 2 ∷ n 127 ∷ []) (atom (codes "integer_overflow"))
    × raises (codes "-") (minus (2 ^ 127) ∷ []) (atom (codes "integer_overflow"))
unfolding gives
past-the_range = (refl, refl, refl)

pub powers-and_shifts : comes_to (codes "**") (n 0 ∷ n 0 ∷ []) (pos 1)
    × raises (codes "**") (n 2 ∷ minus 1 ∷ []) (atom (codes "negative_exponent"))
    × comes_to (codes ">>") (minus 1 ∷ n 127 ∷ []) (negsuc 0)
    × comes_to (codes "<<") (n 3 ∷ n 4 ∷ []) (pos 48)
    × raises (codes "<<") (n 1 ∷ n 127 ∷ []) (atom (codes "integer_overflow"))
    × raises (codes "<<") (n 1 ∷ n 128 ∷ []) (atom (codes "bad_shift"))
    × raises (codes ">>") (n 1 ∷ minus 1 ∷ []) (atom (codes "bad_shift"))
unfolding gives
powers-and_shifts = (refl, refl, refl, refl, refl, refl, refl)

pub bits : comes_to (codes "/\\") (n 12 ∷ n 10 ∷ []) (pos 8)
    × comes_to (codes "\\/") (n 12 ∷ n 10 ∷ []) (pos 14)
    × comes_to (codes "^") (n 12 ∷ n 10 ∷ []) (pos 6)
    × comes_to (codes "~") (n 0 ∷ []) (negsuc 0)
unfolding gives
bits = (refl, refl, refl, refl)

pub signs : comes_to (codes "-") (n 5 ∷ []) (negsuc 4)
    × comes_to (codes "+") (n 5 ∷ []) (pos 5)
    × comes_to (codes "abs") (minus 5 ∷ []) (pos 5)
    × comes_to (codes "abs") (n 5 ∷ []) (pos 5)
    × comes_to (codes "sign") (minus 5 ∷ []) (negsuc 0)
    × comes_to (codes "min") (n 3 ∷ minus 5 ∷ []) (negsuc 4)
    × comes_to (codes "max") (n 3 ∷ minus 5 ∷ []) (pos 3)
unfolding gives
signs = (refl, refl, refl, refl, refl, refl, refl)

-- an argument that is no integer is told before a fault, the first from the left; a bound variable counts as what it is bound to
pub wrong-arguments : raises (codes "+") (a ∷ var 0 ∷ []) (raised_type (codes "integer") a)
    × raises (codes "//") (a ∷ n 0 ∷ []) (raised_type (codes "integer") a)
    × raises (codes "+") (n 1 ∷ var 7 ∷ []) (raised_type (codes "integer") (var 0))
    × raises (codes "min") (a ∷ n 1 ∷ []) (raised_type (codes "integer") a)
    × raises (codes "max") (n 1 ∷ a ∷ []) (raised_type (codes "integer") a)
    × (gives (codes "+") (var 0 ∷ n 1 ∷ []) (a_state (bound (n 4) ∷ [])) ≡ Some (Gives (n 5) (a_state (bound (n 4) ∷ []))))
    × (gives (codes "*") (n 3 ∷ var 0 ∷ []) (a_state (bound (n 4) ∷ [])) ≡ Some (Gives (n 12) (a_state (bound (n 4) ∷ []))))
    × (gives (codes "~") (var 0 ∷ []) (a_state (bound (n 4) ∷ [])) ≡ Some (Gives (minus 5) (a_state (bound (n 4) ∷ []))))
    × (gives (codes "abs") (n 1 ∷ n 2 ∷ []) empty_state ≡ None)
unfolding gives
wrong-arguments = (refl, refl, refl, refl, refl, refl, refl, refl, refl)
