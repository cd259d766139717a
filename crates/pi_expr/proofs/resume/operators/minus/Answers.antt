use Rattle.std.proofs.lemmas.Result.{IfOk-weaker}
use Rattle.pi_expr.proofs.resume.operators.minus.Goals as goal

pub returns : goal.returns
returns c = λ fs e h. c.read_as.ensures fs _ (IfOk-weaker c.negated.result _ _ (λ made so. so e h) c.negated.ensures)
