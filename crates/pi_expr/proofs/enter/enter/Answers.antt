use Rattle.std.proofs.Common.{refl}
use Rattle.pi_expr.proofs.enter.enter.Goals as goal

pub returns-in-Next : goal.returns-in-Next
returns-in-Next c = λ fs h. rw c.in-Next.ensures (c.enter_by.ensures fs h)

pub returns-in-End : goal.returns-in-End
returns-in-End c = λ fs h. rw c.in-End.ensures refl
