-- What the truth of a reified sum and the terms are left, each by itself: the truth is at place 0, and the terms behind it. The definitions are own.
use Rattle.std.specs.Prelude.{◌≡◌, ◌⊎◌, ℕ, Bool, IsTrue, List, ℤ, pos}
use Rattle.pi_constraints.specs.declared.constraint.Rel.{Rel}
use Rattle.pi_constraints.specs.declared.domain.Span.{Span}
use Rattle.pi_prop_spec.specs.Ends.{IsFixedTo}
use Rattle.pi_prop_spec.specs.Places.{domain_at}
use Rattle.pi_prop_spec.specs.Sums.{SumKeeps, OppositeKeeps}
use Rattle.pi_prop_spec.specs.Reified.{of_terms}

-- the terms are filtered by the sum where the truth is fixed to 1, and by its opposite where it is fixed to 0
abbrev pub TermKeeps : Rel → List (ℤ × ℕ) → ℤ → List (List Span) → ℕ → ℤ → Type 0
TermKeeps rel terms constant ds j n =
    (IsFixedTo (domain_at ds 0) (pos 1) → SumKeeps rel terms constant (of_terms ds) j n) × (IsFixedTo (domain_at ds 0) (pos 0) → OppositeKeeps rel terms constant (of_terms ds) j n)

-- the truth keeps 1 where the sum can hold, and 0 where it can fail
abbrev pub TruthKeeps : Bool → Bool → ℤ → Type 0
TruthKeeps holds fails n = ((n ≡ pos 1) × IsTrue holds) ⊎ ((n ≡ pos 0) × IsTrue fails)
