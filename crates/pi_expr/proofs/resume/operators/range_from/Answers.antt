use Rattle.std.proofs.Common.{refl}
use Rattle.std.proofs.lemmas.Result.{IfOk-weaker}
use Rattle.pi_expr_phrases.specs.Machine as m
use Rattle.pi_syntax.specs.ExpTree as tree
use Rattle.pi_expr.proofs.resume.operators.range_from.Goals as goal

pub returns-in-Some : goal.returns-in-Some
returns-in-Some c = λ fs a e h i. rw (c.in-Some.ensures.0, c.in-Some.ensures.1) (m.range_step a e, (refl, (a, (e, (refl, (h, i))))))

pub returns-in-None : goal.returns-in-None
returns-in-None c = λ fs a e h i. rw c.in-None.ensures (c.read_as.ensures fs (tree.range a e) (IfOk-weaker c.range.result _ _ (λ made so. so a e h i) c.range.ensures))
