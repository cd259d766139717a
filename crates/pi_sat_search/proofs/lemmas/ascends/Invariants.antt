use Rattle.std.proofs.Common.{ℕ, ◌+◌, ◌<◌, get_or}
use Rattle.pi_sat_spec.specs.declared.literal.Literal.{Literal}
use Rattle.pi_sat_spec.specs.Literals.{Precedes}
use Rattle.pi_sat_search.proofs.lemmas.ascends.Given as goal

abbrev pub invariant-loop-i : goal.invariant-loop-i
invariant-loop-i l = (k : ℕ) (other : Literal) → k + 1 < l.i → Precedes (get_or l.lemma k other) (get_or l.lemma (k + 1) other)
