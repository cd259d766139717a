use Rattle.std.proofs.Common.{refl}
use Rattle.pi_expr_phrases.specs.Machine as m
use Rattle.pi_expr.proofs.enter.structure.Goals as goal

pub returns-in-Some : goal.returns-in-Some
returns-in-Some c = λ fs. rw (c.in-Some.ensures.0, c.in-Some.ensures.1) (c.arguments.ensures fs (m.of_quote c.args.name.now) (refl, c.new.ensures))

pub returns-in-None : goal.returns-in-None
returns-in-None c = λ fs. rw c.in-None.ensures refl
