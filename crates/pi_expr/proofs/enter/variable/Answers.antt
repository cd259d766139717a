use Rattle.std.proofs.Common.{refl}
use Rattle.pi_expr_phrases.specs.Machine as m
use Rattle.pi_syntax.specs.ExpTree.{var}
use Rattle.pi_expr.proofs.enter.variable.Goals as goal

pub returns-in-Some : goal.returns-in-Some
returns-in-Some c = λ fs. rw (c.in-Some.ensures.0, c.in-Some.ensures.1) (m.pattern c.args.name.now, (refl, refl))

pub returns-in_ok-variable-in-None : goal.returns-in_ok-variable-in-None
returns-in_ok-variable-in-None c = λ fs. rw c.in-None.ensures (var c.args.name.now, (refl, c.in_ok-variable-in-None.ensures))
