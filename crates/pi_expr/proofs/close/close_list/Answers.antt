use Rattle.std.proofs.Common.{refl}
use Rattle.pi_expr_phrases.specs.Machine as m
use Rattle.pi_expr.proofs.close.close_list.Goals as goal

pub returns-in_ok-more-in-Some : goal.returns-in_ok-more-in-Some
returns-in_ok-more-in-Some c = λ fs es e h i. rw (c.in-Some.ensures.0, c.in-Some.ensures.1) (m.list_tail (m.with_exp es e), (refl, (m.with_exp es e, (refl, c.in_ok-more-in-Some.ensures es e h i))))

pub returns-in-None : goal.returns-in-None
returns-in-None c = λ fs es e h i. rw c.in-None.ensures (c.close_plain_list.ensures fs es e h i)
