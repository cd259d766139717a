use Rattle.std.proofs.Common.{rules, arith}
use Rattle.pi_constraints.proofs.ExtremeLemmas.{IsLeastValue-at}
use Rattle.pi_constraints.proofs.reads.min.Goals as goal

pub returns-clause-some : goal.returns-clause-some
returns-clause-some c = IsLeastValue-at _ c.in_ok-first.first.now _ c.spans.ensures.domain (grind (arith, c.first.ensures.value, c.in_ok-first.was)) (search rules)
