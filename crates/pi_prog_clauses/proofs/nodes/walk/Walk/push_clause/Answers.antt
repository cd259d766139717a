use Rattle.pi_prog_clauses.proofs.nodes.BelowLemmas.{clause-fact}
use Rattle.pi_prog_clauses.proofs.nodes.walk.Walk.push_clause.Goals as goal

pub returns-in-Fact : goal.returns-in-Fact
returns-in-Fact c = clause-fact _ _ _ c.in-Fact.is
