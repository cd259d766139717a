use Rattle.std.proofs.Common.{refl}
use Rattle.pi_expr_phrases.specs.Machine as m
use Rattle.pi_syntax.specs.ExpTree as tree
use Rattle.pi_expr.proofs.resume.brackets.indexing.Goals as goal

pub returns-in-Some : goal.returns-in-Some
returns-in-Some c = λ fs a e h i. rw (c.in-Some.ensures.0, c.in-Some.ensures.1) (m.indexing (tree.index a (tree.one_exp e)), (refl, ((tree.index a (tree.one_exp e)), (refl, c.in_ok-index.ensures a e h i))))

pub returns-in-None : goal.returns-in-None
returns-in-None c = λ fs a e h i. rw c.in-None.ensures (c.close_index.ensures fs (tree.index a (tree.one_exp e)) (c.in_ok-index.ensures a e h i))
