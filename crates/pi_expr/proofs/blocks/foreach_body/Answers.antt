use Rattle.std.proofs.lemmas.Result.{IfOk-weaker}
use Rattle.pi_syntax.specs.ExpTree as tree
use Rattle.pi_expr.proofs.blocks.foreach_body.Goals as goal

pub returns : goal.returns
returns c = λ fs es e h i. c.read_before.ensures fs (tree.foreach es e) (IfOk-weaker c.foreach.result _ _ (λ made so. so es e h i) c.foreach.ensures)
