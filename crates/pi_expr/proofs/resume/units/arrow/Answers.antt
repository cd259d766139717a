use Rattle.pi_syntax.specs.ExpTree as tree
use Rattle.pi_expr.proofs.resume.units.arrow.Goals as goal

pub returns : goal.returns
returns c = λ fs a e h i. c.before_semicolon.ensures fs (tree.arrow a e) (c.in_ok-arrow.ensures a e h i)
