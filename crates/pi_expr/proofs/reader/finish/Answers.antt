use Rattle.pi_expr.proofs.ReaderLemmas.{finish_read, finish_not}
use Rattle.pi_expr.proofs.reader.finish.Goals as goal

pub returns-then-is_empty : goal.returns-then-is_empty
returns-then-is_empty c = λ stack e h. (e, (finish_read e _ _ c.is_empty.ensures c.if-is_empty.true, h))

pub returns-else-is_empty : goal.returns-else-is_empty
returns-else-is_empty c = λ stack e h. finish_not e _ _ c.is_empty.ensures c.if-is_empty.false
