use Rattle.std.proofs.lemmas.Result.{IfOk-weaker}
use Rattle.pi_syntax.specs.ExpTree as tree
use Rattle.pi_expr.proofs.resume.operators.range_step.Goals as goal

pub returns : goal.returns
returns c = λ fs a b e h i j. c.read_as.ensures fs (tree.range_by a b e) (IfOk-weaker c.range_by.result _ _ (λ made so. so a b e h i j) c.range_by.ensures)
