use Rattle.std.proofs.Common.{refl}
use Rattle.pi_expr_phrases.specs.Machine as m
use Rattle.pi_expr.proofs.close.close_array.Goals as goal

pub returns-in-Some : goal.returns-in-Some
returns-in-Some c = λ fs es e h i. rw (c.in-Some.ensures.0, c.in-Some.ensures.1) (c.collect_by.ensures fs es e h i)

pub returns-in-None : goal.returns-in-None
returns-in-None c = λ fs es e h i. rw c.in-None.ensures (c.close_by.ensures fs m.of_array es e (refl, h) i)
