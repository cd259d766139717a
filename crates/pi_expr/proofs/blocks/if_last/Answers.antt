use Rattle.std.proofs.lemmas.Result.{IfOk-weaker}
use Rattle.pi_syntax.specs.ExpTree as tree
use Rattle.pi_expr.proofs.blocks.if_last.Goals as goal

pub returns : goal.returns
returns c = λ fs bs e h i. c.read_before.ensures fs (tree.if_else bs e) (IfOk-weaker c.if_else.result _ _ (λ made so. so bs e h i) c.if_else.ensures)
