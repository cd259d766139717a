use Rattle.std.proofs.Common.{refl, sym}
use Rattle.pi_expr_phrases.specs.Machine as m
use Rattle.pi_expr.proofs.TurnLemmas.{units_with}
use Rattle.pi_expr.proofs.close.close_by.Goals as goal

pub returns-in-Ok : goal.returns-in-Ok
returns-in-Ok c = λ fs k es e h i. rw (sym (c.closer-closer.ensures _ k es h), c.in-Some.ensures.0, c.in-Some.ensures.1) (c.closed.ensures fs k (m.with_exp es e) (units_with _ _ _ _ k es e c.in-Ok.ensures h i))

pub returns-in-None : goal.returns-in-None
returns-in-None c = λ fs k es e h i. rw (sym (c.closer-closer.ensures _ k es h), c.in-None.ensures) refl
