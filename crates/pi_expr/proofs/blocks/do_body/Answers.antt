use Rattle.std.proofs.Common.{refl}
use Rattle.pi_expr_phrases.specs.Machine as m
use Rattle.pi_expr.proofs.blocks.do_body.Goals as goal

pub returns-in-Some : goal.returns-in-Some
returns-in-Some c = λ fs e h. rw (c.in-Some.ensures.0, c.in-Some.ensures.1) (c.open_behind.ensures fs (m.do_test e) (e, (refl, h)))

pub returns-in-None : goal.returns-in-None
returns-in-None c = λ fs e h. rw c.in-None.ensures refl
