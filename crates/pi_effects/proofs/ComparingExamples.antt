-- Comparing terms, worked out.
use Rattle.std.proofs.Common.{◌≡◌, [], ◌∷◌, refl}
use Rattle.std.specs.Prelude.{ℕ, List, Some, codes}
use Rattle.pi_terms.specs.Tree.{Tree, var}
use Rattle.pi_constraints.specs.State.{State, free, bound}
use Rattle.pi_effects.specs.Effect.{Succeeds, Fails, Raises}
use Rattle.pi_effects.proofs.Worked.{a_state, n, a, b, compound, raised_type, does}

-- two unbound variables, and the second bound to 5
abbrev two : State
two = a_state (free ∷ free ∷ [])

abbrev second_is_5 : State
second_is_5 = a_state (free ∷ bound (n 5) ∷ [])

abbrev holds : List ℕ → Tree → Tree → State → Type 0
holds name t u s = does name (t ∷ u ∷ []) s ≡ Some (Succeeds s)

abbrev not_so : List ℕ → Tree → Tree → State → Type 0
not_so name t u s = does name (t ∷ u ∷ []) s ≡ Some Fails

-- the higher variable is bound to the lower; `!=` binds nothing
pub unifying : (does (codes "=") (var 1 ∷ var 0 ∷ []) two ≡ Some (Succeeds (a_state (free ∷ bound (var 0) ∷ []))))
    × not_so (codes "=") a b two
    × not_so (codes "!=") (var 1) a two
    × holds (codes "!=") (compound (codes "f") (var 0 ∷ [])) (compound (codes "g") (var 0 ∷ [])) two
    × holds (codes "!=") (var 0) (compound (codes "f") (var 0 ∷ [])) two
unfolding does
unifying = (refl, refl, refl, refl, refl)

-- identity goes by values and binds nothing
pub identity : not_so (codes "==") (var 0) (var 1) two
    × holds (codes "!==") (var 0) (var 1) two
    × holds (codes "==") (compound (codes "f") (var 1 ∷ [])) (compound (codes "f") (n 5 ∷ [])) second_is_5
    × not_so (codes "!==") (var 1) (n 5) second_is_5
unfolding does
identity = (refl, refl, refl, refl)

pub integers : holds (codes "<") (n 1) (n 2) two
    × not_so (codes "<") (n 2) (n 2) two
    × holds (codes "=<") (n 2) (n 2) two
    × not_so (codes "=<") (n 3) (n 2) two
    × holds (codes ">") (n 3) (n 2) two
    × not_so (codes ">") (n 2) (n 2) two
    × holds (codes ">=") (n 2) (n 2) two
    × not_so (codes ">=") (n 1) (n 2) two
    × holds (codes "=:=") (n 2) (n 2) two
    × not_so (codes "=:=") (n 1) (n 2) two
    × holds (codes "=\\=") (n 1) (n 2) two
    × not_so (codes "=\\=") (n 2) (n 2) two
unfolding does
integers = (refl, refl, refl, refl, refl, refl, refl, refl, refl, refl, refl, refl)

-- the first wrong argument from the left is told; its variables are numbered from 0
pub wrong-arguments : (does (codes "<") (a ∷ b ∷ []) two ≡ Some (Raises (raised_type (codes "integer") a)))
    × (does (codes "=:=") (n 1 ∷ var 1 ∷ []) two ≡ Some (Raises (raised_type (codes "integer") (var 0))))
unfolding does
wrong-arguments = (refl, refl)

-- variables, integers, atoms, compounds
pub ordered : holds (codes "@<") (var 0) (n 1) two
    × holds (codes "@<") (n 9) a two
    × holds (codes "@<") a (compound (codes "f") []) two
    × not_so (codes "@<") a a two
    × holds (codes "@=<") a a two
    × holds (codes "@=<") a b two
    × not_so (codes "@=<") b a two
    × holds (codes "@>") b a two
    × not_so (codes "@>") a a two
    × holds (codes "@>=") a a two
    × holds (codes "@>=") b a two
    × not_so (codes "@>=") a b two
    × holds (codes "@<") (var 1) (n 6) second_is_5
unfolding does
ordered = (refl, refl, refl, refl, refl, refl, refl, refl, refl, refl, refl, refl, refl)

-- a bound variable counts as what it is bound to
pub bound-arguments : holds (codes "<") (n 4) (var 1) second_is_5
    × holds (codes ">=") (var 1) (n 5) second_is_5
    × holds (codes "=:=") (var 1) (var 1) second_is_5
    × not_so (codes "!=") (var 1) (n 5) second_is_5
    × holds (codes "=") (var 1) (n 5) second_is_5
    × not_so (codes "=") (n 6) (var 1) second_is_5
unfolding does
bound-arguments = (refl, refl, refl, refl, refl, refl)
