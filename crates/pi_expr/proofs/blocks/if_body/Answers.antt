use Rattle.std.proofs.Common.{refl}
use Rattle.pi_expr_phrases.specs.Machine as m
use Rattle.pi_expr.proofs.blocks.if_body.Goals as goal

pub returns-in-Some : goal.returns-in-Some
returns-in-Some c = λ fs bs a e h i j. rw (c.in-Some.ensures.0, c.in-Some.ensures.1) (m.if_test (m.with_branch bs a e), (refl, ((m.with_branch bs a e), (refl, c.in_ok-more.ensures bs a e h i j))))

pub returns-in-None : goal.returns-in-None
returns-in-None c = λ fs bs a e h i j. rw c.in-None.ensures (c.no_elseif.ensures fs (m.with_branch bs a e) (c.in_ok-more.ensures bs a e h i j))
