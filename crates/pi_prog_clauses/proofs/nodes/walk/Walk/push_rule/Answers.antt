use Rattle.pi_prog_clauses.proofs.nodes.BelowLemmas.{clause-rule}
use Rattle.pi_prog_clauses.proofs.nodes.WalkLemmas.{twice_ok}
use Rattle.pi_prog_clauses.proofs.nodes.walk.Walk.push_rule.Goals as goal

pub returns : goal.returns
returns c = twice_ok c.push.result c.push_optional.result c.and.result c.and.ensures c.push.ensures c.push_optional.ensures (λ one now. clause-rule c.args.rule.now _ _ _ one (rw c.cond.ensures at now))
