use Rattle.std.proofs.Common.{inl}
use Rattle.pi_expr.proofs.CrowdLemmas.{few_by}
use Rattle.pi_expr.proofs.reader.read_exp.Goals as goal

pub returns-then-is_crowded-clause-fault : goal.returns-then-is_crowded-clause-fault
returns-then-is_crowded-clause-fault c = inl (c.is_crowded.ensures.0 c.if-is_crowded.true)

pub read_uncrowded-requires-clause-uncrowded : goal.read_uncrowded-requires-clause-uncrowded
read_uncrowded-requires-clause-uncrowded c = few_by _ _ c.is_crowded.ensures c.if-is_crowded.false
