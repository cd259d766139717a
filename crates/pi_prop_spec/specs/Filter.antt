-- The filter of a constraint: which values it leaves at each place, of the domains that the places have. The rules are own.
use Rattle.std.specs.Prelude.{ℕ, ◌<◌, IsTrue, List, length, ℤ}
use Rattle.pi_constraints.specs.declared.constraint.Constraint.{Constraint}
use Rattle.pi_constraints.specs.declared.domain.Span.{Span}
use Rattle.pi_constraints.specs.Domain.{has_value}
use Rattle.pi_prop_spec.specs.Places.{places_of, domain_at, HaveValues, HaveOneVariable}
use Rattle.pi_prop_spec.specs.Sums.{SumKeeps}
use Rattle.pi_prop_spec.specs.Rules.{DifferentKeeps, DistinctKeeps, ElementKeeps, ProductKeeps, AbsoluteKeeps}
use Rattle.pi_prop_spec.specs.Reified.{ReifiedKeeps}

-- the rule of each kind
abbrev pub RuleKeeps : Constraint → List (List Span) → ℕ → ℤ → Type 0
RuleKeeps (Constraint.Linear rel terms constant) ds k n = SumKeeps rel terms constant ds k n
RuleKeeps (Constraint.Product z x y) ds k n = ProductKeeps ds k n
RuleKeeps (Constraint.Absolute z x) ds k n = AbsoluteKeeps ds k n
RuleKeeps (Constraint.Different items) ds k n = DifferentKeeps ds k n
RuleKeeps (Constraint.Element index items value) ds k n = ElementKeeps (length items) ds k n
RuleKeeps (Constraint.Reified truth rel terms constant) ds k n = ReifiedKeeps rel terms constant ds k n
RuleKeeps (Constraint.Distinct items) ds k n = DistinctKeeps ds k n

-- a place by itself keeps n: no given domain is empty, n is one of its values, and the rule keeps it
pub record PlaceKeeps (c : Constraint) (ds : List (List Span)) (k : ℕ) (n : ℤ) : Type 0 where
  pub values : HaveValues ds
  pub given : IsTrue (has_value (domain_at ds k) n)
  pub rule : RuleKeeps c ds k n

-- the filter leaves n at place k: the places of one variable take what they all keep
abbrev pub Leaves : Constraint → List (List Span) → ℕ → ℤ → Type 0
Leaves c ds k n = (j : ℕ) → j < length (places_of c) → HaveOneVariable (places_of c) j k → PlaceKeeps c ds j n
