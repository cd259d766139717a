use Rattle.std.proofs.Common.{ℕ, ◌<◌, get_or}
use Rattle.std.specs.Prelude.{IsTrue}
use Rattle.pi_constraints.specs.declared.var_domain.VarDomain.{VarDomain}
use Rattle.pi_constraints.specs.Domain.{has_value}
use Rattle.pi_sat_search.specs.Assigned.{assigned}
use Rattle.pi_sat_search.proofs.solutions.lie_within.Given as goal

abbrev pub invariant-loop-given : goal.invariant-loop-given
invariant-loop-given l = (k : ℕ) (other : VarDomain) → k < l.given-index → IsTrue (has_value (get_or l.domains k other).domain (assigned l.values (get_or l.domains k other).var))
