use Rattle.pi_syntax.specs.ExpTree as tree
use Rattle.pi_expr.proofs.blocks.no_else.Goals as goal

pub returns : goal.returns
returns c = λ fs bs h. c.found_behind.ensures fs (tree.if_then bs) (c.if_then.ensures bs h)
