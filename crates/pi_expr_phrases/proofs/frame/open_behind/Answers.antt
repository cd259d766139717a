use Rattle.std.proofs.Common.{refl}
use Rattle.pi_expr_phrases.proofs.frame.open_behind.Goals as goal

pub returns-in-Some : goal.returns-in-Some
returns-in-Some c = λ fs f h. rw (c.in-Some.ensures.0, c.in-Some.ensures.1) (f, (refl, h))

pub returns-in-None : goal.returns-in-None
returns-in-None c = λ fs f h. rw c.in-None.ensures refl
