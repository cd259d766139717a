use Rattle.std.proofs.Common.{subst}
use Rattle.pi_sat_spec.specs.Logs.{AreRight}
use Rattle.pi_sat_search.specs.Steps.{Searched, AreApart}
use Rattle.pi_sat_search.proofs.search.SatSearch.log.Goals as goal

pub returns-clause-right : goal.returns-clause-right
returns-clause-right c = subst (λ (s : Searched). AreRight s.domains s.constraints s.log) c.self.view_is c.self.invariant.1.right

pub returns-clause-apart : goal.returns-clause-apart
returns-clause-apart c = subst (λ (s : Searched). AreApart s.log) c.self.view_is c.self.invariant.1.apart
