use Rattle.std.proofs.lemmas.Result.{IfOk-weaker}
use Rattle.pi_syntax.specs.ExpTree as tree
use Rattle.pi_expr.proofs.resume.brackets.pattern.Goals as goal

pub returns : goal.returns
returns c = λ fs e h. c.read_as.ensures fs (tree.at c.args.name.now e) (IfOk-weaker c.at.result _ _ (λ made so. so e h) c.at.ensures)
