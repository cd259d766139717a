use Rattle.std.proofs.Common.{refl}
use Rattle.pi_expr_phrases.specs.Machine as m
use Rattle.pi_expr.proofs.TurnLemmas.{units_with}
use Rattle.pi_expr.proofs.close.resume_items.Goals as goal

pub returns-in-Ok : goal.returns-in-Ok
returns-in-Ok c = λ fs k es e h i. rw (c.in-Some.ensures.0, c.in-Some.ensures.1) (m.items k (m.with_exp es e), (refl, (k, (m.with_exp es e, (refl, units_with _ _ _ _ k es e c.in-Ok.ensures h i)))))

pub returns-in-None : goal.returns-in-None
returns-in-None c = λ fs k es e h i. rw c.in-None.ensures (c.close_items.ensures fs k es e h i)
