-- Tests of kind, worked out: each at a variable, an integer, an atom, the empty list, a list cell, an array and another compound.
use Rattle.std.proofs.Common.{◌≡◌, [], ◌∷◌, refl}
use Rattle.std.specs.Prelude.{ℕ, Bool, true, false, List, Option, Some, None, codes, map}
use Rattle.pi_terms.specs.Tree.{Tree, var}
use Rattle.pi_constraints.specs.State.{State, free, bound}
use Rattle.pi_effects.specs.Effect.{Effect, Succeeds, Fails}
use Rattle.pi_effects.specs.Items.{list_of, array_of}
use Rattle.pi_effects.proofs.Worked.{a_state, n, a, compound, does}

abbrev one : State
one = a_state (free ∷ bound (var 0) ∷ [])

abbrev kinds : List Tree
kinds = var 1 ∷ n 1 ∷ a ∷ list_of [] ∷ list_of (var 0 ∷ []) ∷ array_of (n 1 ∷ []) ∷ compound (codes "f") [] ∷ []

abbrev is_success : Option Effect → Bool
is_success (Some (Succeeds s)) = true
is_success _ = false

abbrev verdicts : List ℕ → List Bool
verdicts name = map (λ t. is_success (does name (t ∷ []) one)) kinds

pub kinds-told : (verdicts (codes "var") ≡ true ∷ false ∷ false ∷ false ∷ false ∷ false ∷ false ∷ [])
    × (verdicts (codes "nonvar") ≡ false ∷ true ∷ true ∷ true ∷ true ∷ true ∷ true ∷ [])
    × (verdicts (codes "integer") ≡ false ∷ true ∷ false ∷ false ∷ false ∷ false ∷ false ∷ [])
    × (verdicts (codes "int") ≡ false ∷ true ∷ false ∷ false ∷ false ∷ false ∷ false ∷ [])
    × (verdicts (codes "atom") ≡ false ∷ false ∷ true ∷ true ∷ false ∷ false ∷ false ∷ [])
    × (verdicts (codes "atomic") ≡ false ∷ true ∷ true ∷ true ∷ false ∷ false ∷ false ∷ [])
    × (verdicts (codes "compound") ≡ false ∷ false ∷ false ∷ false ∷ true ∷ true ∷ true ∷ [])
    × (verdicts (codes "list") ≡ false ∷ false ∷ false ∷ true ∷ true ∷ false ∷ false ∷ [])
    × (verdicts (codes "array") ≡ false ∷ false ∷ false ∷ false ∷ false ∷ true ∷ false ∷ [])
    × (verdicts (codes "struct") ≡ false ∷ false ∷ false ∷ false ∷ false ∷ true ∷ true ∷ [])
    × (verdicts (codes "ground") ≡ false ∷ true ∷ true ∷ true ∷ false ∷ true ∷ true ∷ [])
unfolding does
kinds-told = (refl, refl, refl, refl, refl, refl, refl, refl, refl, refl, refl)

-- `true` and `fail`; a test has one answer in the same state, or none
pub verdict-keeps_state : (does (codes "true") [] one ≡ Some (Succeeds one)) × (does (codes "fail") [] one ≡ Some Fails)
    × (does (codes "var") (var 0 ∷ []) one ≡ Some (Succeeds one)) × (does (codes "var") (n 1 ∷ []) one ≡ Some Fails)
    × (does (codes "var") [] one ≡ None)
unfolding does
verdict-keeps_state = (refl, refl, refl, refl, refl)
