use Rattle.std.proofs.Common.{◌≢◌, ℕ, ◌<◌, get_or}
use Rattle.pi_constraints.specs.declared.var_domain.VarDomain.{VarDomain}
use Rattle.pi_sat_search.proofs.limits.stands_first.Given as goal

abbrev pub invariant-loop-j : goal.invariant-loop-j
invariant-loop-j l = (k : ℕ) (other : VarDomain) → k < l.j → (get_or l.domains k other).var ≢ (get_or l.domains l.initial.i other).var
