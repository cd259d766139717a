use Rattle.std.proofs.Common.{refl}
use Rattle.pi_expr_phrases.specs.Machine as m
use Rattle.pi_expr.proofs.blocks.no_elseif.Goals as goal

pub returns-in-Some : goal.returns-in-Some
returns-in-Some c = λ fs bs h. rw (c.in-Some.ensures.0, c.in-Some.ensures.1) (m.if_last bs, (refl, (bs, (refl, h))))

pub returns-in-None : goal.returns-in-None
returns-in-None c = λ fs bs h. rw c.in-None.ensures (c.no_else.ensures fs bs h)
