-- Values that a search has found: a constraint holds where its filter, of the value alone at each place, leaves each place its value. (Own.)
use Rattle.std.specs.Prelude.{ℕ, List, map, All, ℤ}
use Rattle.pi_constraints.specs.declared.constraint.Constraint.{Constraint}
use Rattle.pi_constraints.specs.declared.domain.Span.{Span}
use Rattle.pi_constraints.specs.Domain.{IsWithinBounds}
use Rattle.pi_constraints.specs.Constraint.{IsWithinLimits}
use Rattle.pi_prop_spec.specs.Places.{places_of}
use Rattle.pi_prop_spec.specs.Solutions.{value_of, Holds}
use Rattle.pi_sat_spec.specs.Domains.{only}
use Rattle.pi_sat_spec.specs.Logs.{Empties}

-- the value alone at each place
abbrev pub fixed_places : (ℕ → ℤ) → Constraint → List (List Span)
fixed_places a c = map (λ x. only (value_of a x)) (places_of c)

abbrev pub FixedPlacesTell : Type 0
FixedPlacesTell = (c : Constraint) (a : ℕ → ℤ) → IsWithinLimits c → All (λ x. IsWithinBounds (value_of a x)) (places_of c) → (Empties c (fixed_places a c) → ⊥) → Holds c a
