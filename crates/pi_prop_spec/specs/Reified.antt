-- What the filter of a reified sum keeps: the truth is at place 0, and the terms at 1, 2 and so on. The rules are own.
use Rattle.std.specs.Prelude.{◌≡◌, ◌⊎◌, ℕ, suc, ◌<◌, IsTrue, List, length, drop, ℤ, pos}
use Rattle.pi_constraints.specs.declared.constraint.Rel.{Rel}
use Rattle.pi_constraints.specs.declared.domain.Span.{Span}
use Rattle.pi_constraints.specs.Domain.{has_value}
use Rattle.pi_prop_spec.specs.Ends.{IsFixedTo}
use Rattle.pi_prop_spec.specs.Places.{domain_at}
use Rattle.pi_prop_spec.specs.Sums.{SumKeeps, OppositeKeeps}

-- a filter leaves each place a value
abbrev pub LeavesValues : (ℕ → ℤ → Type 0) → List (List Span) → Type 0
LeavesValues Kept ds = (k : ℕ) → k < length ds → (n : ℤ) × IsTrue (has_value (domain_at ds k) n) × Kept k n

-- the domains of the terms
abbrev pub of_terms : List (List Span) → List (List Span)
of_terms ds = drop 1 ds

pub record ReifiedKeeps (rel : Rel) (terms : List (ℤ × ℕ)) (constant : ℤ) (ds : List (List Span)) (k : ℕ) (n : ℤ) : Type 0 where
  -- the truth has 1 and 0 alone; it loses 1 where the sum's filter empties a domain, and 0 where that of the opposite does
  pub truth : k ≡ 0 → ((n ≡ pos 1) × LeavesValues (SumKeeps rel terms constant (of_terms ds)) (of_terms ds)) ⊎ ((n ≡ pos 0) × LeavesValues (OppositeKeeps rel terms constant (of_terms ds)) (of_terms ds))
  -- where the truth is fixed to 1 the terms are filtered by the sum, and where it is fixed to 0 by its opposite
  pub holds : (j : ℕ) → k ≡ suc j → IsFixedTo (domain_at ds 0) (pos 1) → SumKeeps rel terms constant (of_terms ds) j n
  pub fails : (j : ℕ) → k ≡ suc j → IsFixedTo (domain_at ds 0) (pos 0) → OppositeKeeps rel terms constant (of_terms ds) j n
