use Rattle.std.proofs.Common.{refl}
use Rattle.pi_expr_phrases.specs.Machine as m
use Rattle.pi_syntax.specs.ExpTree.{no_exps}
use Rattle.pi_expr.proofs.arguments.arguments.Goals as goal

pub returns-in-Some : goal.returns-in-Some
returns-in-Some c = λ fs k h. rw (c.in-Some.ensures.0, c.in-Some.ensures.1) (c.closed.ensures fs k no_exps h)

pub returns-in-None : goal.returns-in-None
returns-in-None c = λ fs k h. rw c.in-None.ensures (m.items k no_exps, (refl, (k, (no_exps, (refl, h)))))
