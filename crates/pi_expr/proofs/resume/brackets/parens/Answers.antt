use Rattle.std.proofs.lemmas.Result.{IfOk-weaker}
use Rattle.pi_expr.proofs.resume.brackets.parens.Goals as goal

pub returns : goal.returns
returns c = λ fs e h. c.read_before.ensures fs _ (IfOk-weaker c.in_parens.result _ _ (λ made so. so e h) c.in_parens.ensures)
