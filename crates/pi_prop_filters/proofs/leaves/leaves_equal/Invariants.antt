use Rattle.std.proofs.Common.{ℕ, ◌<◌, ℤ, IsTrue}
use Rattle.pi_constraints.specs.Domain.{has_value}
use Rattle.pi_prop_spec.specs.Places.{domain_at}
use Rattle.pi_prop_spec.specs.Reified.{of_terms}
use Rattle.pi_prop_spec.specs.Sums.{EqualKeeps}
use Rattle.pi_prop_filters.proofs.leaves.leaves_equal.Given as goal

-- the first so many places have such a value
abbrev pub invariant-loop-i : goal.invariant-loop-i
invariant-loop-i g l = let ds = of_terms (g.P.Places.domains l.places) in (k : ℕ) → k < l.i → (n : ℤ) × IsTrue (has_value (domain_at ds k) n) × EqualKeeps l.terms l.constant ds k n
