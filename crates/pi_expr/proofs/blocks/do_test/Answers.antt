use Rattle.std.proofs.lemmas.Result.{IfOk-weaker}
use Rattle.pi_syntax.specs.ExpTree as tree
use Rattle.pi_expr.proofs.blocks.do_test.Goals as goal

pub returns : goal.returns
returns c = λ fs a e h i. c.read_before.ensures fs (tree.do_while a e) (IfOk-weaker c.do_while.result _ _ (λ made so. so a e h i) c.do_while.ensures)
