-- What calls do to the domains of places. The definitions are own.
use Rattle.std.specs.Prelude.{◌≡◌, ◌≢◌, ◌↔◌, ℕ, ◌+◌, ◌<◌, ◌≤◌, Bool, false, ◌&&◌, IsTrue, List, length, ℤ}
use Rattle.pi_constraints.specs.declared.domain.Span.{Span}
use Rattle.pi_constraints.specs.Domain.{has_value}
use Rattle.pi_prop_spec.specs.Places.{domain_at}

-- the domain at place k is left with the values that pass a test, and all others are as they were
pub record IsCutAt (k : ℕ) (test : ℤ → Bool) (old new : List (List Span)) : Type 0 where
  pub count : length new ≡ length old
  pub here : (n : ℤ) → has_value (domain_at new k) n ≡ (has_value (domain_at old k) n && test n)
  pub others : (j : ℕ) → j ≢ k → domain_at new j ≡ domain_at old j

-- so many domains from place `first` on, counted from there, are left with the values that pass their tests, and all others are as they were
pub record AreCutFrom (first many : ℕ) (test : ℕ → ℤ → Bool) (old new : List (List Span)) : Type 0 where
  pub count : length new ≡ length old
  pub before : (j : ℕ) → j < first → domain_at new j ≡ domain_at old j
  pub cut : (j : ℕ) (n : ℤ) → j < many → has_value (domain_at new (first + j)) n ≡ (has_value (domain_at old (first + j)) n && test j n)
  pub behind : (j : ℕ) → many ≤ j → domain_at new (first + j) ≡ domain_at old (first + j)

-- the domains from place `first` on, counted from there, are left with the values that a rule keeps, and those before are as they were
pub record AreFilteredFrom (first : ℕ) (Kept : ℕ → ℤ → Type 0) (old new : List (List Span)) : Type 0 where
  pub count : length new ≡ length old
  pub before : (j : ℕ) → j < first → domain_at new j ≡ domain_at old j
  pub kept : (j : ℕ) (n : ℤ) → first + j < length old → IsTrue (has_value (domain_at new (first + j)) n) ↔ (IsTrue (has_value (domain_at old (first + j)) n) × Kept j n)

-- the domains are left with the values that a rule keeps
pub record AreFiltered (Kept : ℕ → ℤ → Type 0) (old new : List (List Span)) : Type 0 where
  pub count : length new ≡ length old
  pub kept : (k : ℕ) (n : ℤ) → k < length old → IsTrue (has_value (domain_at new k) n) ↔ (IsTrue (has_value (domain_at old k) n) × Kept k n)

-- the domain at place k is left with the values that a rule keeps, and all others are as they were
pub record IsKeptAt (k : ℕ) (Kept : ℤ → Type 0) (old new : List (List Span)) : Type 0 where
  pub count : length new ≡ length old
  pub here : (n : ℤ) → IsTrue (has_value (domain_at new k) n) ↔ (IsTrue (has_value (domain_at old k) n) × Kept n)
  pub others : (j : ℕ) → j ≢ k → domain_at new j ≡ domain_at old j

-- no domain has a value
pub record AreEmptied (old new : List (List Span)) : Type 0 where
  pub count : length new ≡ length old
  pub none : (k : ℕ) (n : ℤ) → has_value (domain_at new k) n ≡ false
