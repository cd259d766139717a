use Rattle.std.proofs.lemmas.Result.{IfOk-weaker}
use Rattle.pi_syntax.specs.ExpTree as tree
use Rattle.pi_expr.proofs.blocks.while_body.Goals as goal

pub returns : goal.returns
returns c = λ fs a e h i. c.read_before.ensures fs (tree.while_do a e) (IfOk-weaker c.while_do.result _ _ (λ made so. so a e h i) c.while_do.ensures)
