use Rattle.std.proofs.Common.{ℕ, ◌<◌}
use Rattle.pi_prop_spec.specs.Ends.{IsFixed}
use Rattle.pi_prop_spec.specs.Places.{domain_at}
use Rattle.pi_prop_spec.specs.Reified.{of_terms}
use Rattle.pi_prop_filters.proofs.leaves.are_fixed.Given as goal

abbrev pub invariant-loop-i : goal.invariant-loop-i
invariant-loop-i g l = (k : ℕ) → k < l.i → IsFixed (domain_at (of_terms (g.P.Places.domains l.places)) k)
