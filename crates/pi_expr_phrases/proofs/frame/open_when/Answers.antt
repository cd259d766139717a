use Rattle.std.proofs.Common.{refl}
use Rattle.pi_expr_phrases.proofs.frame.open_when.Goals as goal

pub returns-then-holds : goal.returns-then-holds
returns-then-holds c = λ fs f h. rw c.if-holds.true (f, (refl, h))

pub returns-else-holds : goal.returns-else-holds
returns-else-holds c = λ fs f h. rw c.if-holds.false refl
