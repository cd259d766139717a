-- What the filter of a constraint makes of a list of domains. The definitions are own.
use Rattle.std.specs.Prelude.{◌≡◌, ◌↔◌, ℕ, ◌<◌, IsTrue, List, length, ℤ}
use Rattle.pi_constraints.specs.declared.constraint.Constraint.{Constraint}
use Rattle.pi_constraints.specs.declared.domain.Span.{Span}
use Rattle.pi_constraints.specs.Domain.{has_value}
use Rattle.pi_prop_spec.specs.Places.{domain_at, HaveValues}
use Rattle.pi_prop_spec.specs.Rules.{DistinctKeeps}
use Rattle.pi_prop_spec.specs.Filter.{Leaves}

-- there is a domain for each one before, with just the values that the filter of a constraint leaves at its place
pub record AreLeft (c : Constraint) (old new : List (List Span)) : Type 0 where
  pub count : length new ≡ length old
  pub values : (k : ℕ) (n : ℤ) → k < length old → IsTrue (has_value (domain_at new k) n) ↔ Leaves c old k n

-- what `Distinct` leaves of domains that have no constraint, each being a place by itself
abbrev pub DistinctLeaves : List (List Span) → ℕ → ℤ → Type 0
DistinctLeaves ds k n = HaveValues ds × DistinctKeeps ds k n

-- the constraint is a reified sum
abbrev pub IsReified : Constraint → Type 0
IsReified (Constraint.Linear rel terms constant) = ⊥
IsReified (Constraint.Product z x y) = ⊥
IsReified (Constraint.Absolute z x) = ⊥
IsReified (Constraint.Different items) = ⊥
IsReified (Constraint.Element index items value) = ⊥
IsReified (Constraint.Reified truth rel terms constant) = Unit {0}
IsReified (Constraint.Distinct items) = ⊥
