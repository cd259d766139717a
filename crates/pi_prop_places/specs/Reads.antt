-- What is asked of the values at a place. The definitions are own.
use Rattle.std.specs.Prelude.{ℕ, ◌+◌, ◌<◌, IsTrue, List, ℤ, pos, ◌+ℤ◌, ◌*ℤ◌, neg_ℤ, ◌≤ℤ◌}
use Rattle.pi_constraints.specs.declared.domain.Span.{Span}
use Rattle.pi_prop_spec.specs.Places.{domain_at}
use Rattle.pi_constraints.specs.Domain.{IsDomain, has_value}

-- a domain has a value from one number to another
abbrev pub HasValueBetween : List Span → ℤ → ℤ → Type 0
HasValueBetween d lo hi = (n : ℤ) × IsTrue (has_value d n) × (lo ≤ℤ n) × (n ≤ℤ hi)

-- a domain has a value n for which neither c * n + above nor below - c * n is above 0
abbrev pub HasValueWith : List Span → ℤ → ℤ → ℤ → Type 0
HasValueWith d c above below = (n : ℤ) × IsTrue (has_value d n) × ((c *ℤ n +ℤ above) ≤ℤ pos 0) × ((neg_ℤ c *ℤ n +ℤ below) ≤ℤ pos 0)

-- the spans at so many places from place `first` on are domains
abbrev pub AreSpansFrom : ℕ → ℕ → List (List Span) → Type 0
AreSpansFrom first many ds = (k : ℕ) → k < many → IsDomain (domain_at ds (first + k))
