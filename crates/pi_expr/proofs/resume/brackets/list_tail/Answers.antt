use Rattle.std.proofs.lemmas.Result.{IfOk-weaker}
use Rattle.pi_syntax.specs.ExpTree as tree
use Rattle.pi_expr.proofs.resume.brackets.list_tail.Goals as goal

pub returns : goal.returns
returns c = λ fs es e h i. c.read_before.ensures fs (tree.list_onto es e) (IfOk-weaker c.list_onto.result _ _ (λ made so. so es e h i) c.list_onto.ensures)
