use Rattle.std.proofs.Common.{ℕ, ◌<◌, get_or}
use Rattle.pi_constraints.specs.declared.var_domain.VarDomain.{VarDomain}
use Rattle.pi_constraints.specs.Domain.{IsDomain}
use Rattle.pi_sat_search.proofs.sure.look_at_all.Given as goal

abbrev pub invariant-loop-one : goal.invariant-loop-one
invariant-loop-one l = (k : ℕ) (other : VarDomain) → k < l.one-index → IsDomain (get_or l.domains k other).domain
