use Rattle.std.proofs.Common.{◌≡◌, ℕ, ◌<◌, get_or}
use Rattle.pi_sat_spec.specs.declared.literal.Literal.{Literal}
use Rattle.pi_sat_search.proofs.lemmas.is_same.Given as goal

abbrev pub invariant-loop-i : goal.invariant-loop-i
invariant-loop-i l = (k : ℕ) (other : Literal) → k < l.i → get_or l.first k other ≡ get_or l.second k other
