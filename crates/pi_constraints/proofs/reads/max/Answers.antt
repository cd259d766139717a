use Rattle.std.proofs.Common.{rules, arith}
use Rattle.pi_constraints.proofs.ExtremeLemmas.{IsGreatestValue-at}
use Rattle.pi_constraints.proofs.reads.max.Goals as goal

pub returns-clause-some : goal.returns-clause-some
returns-clause-some c = IsGreatestValue-at _ c.in_ok-last.last.now _ c.spans.ensures.domain (grind (arith, c.last.ensures.value, c.in_ok-last.was)) (search rules)
