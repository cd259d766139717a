use Rattle.pi_expr.proofs.StepLemmas.{dots_no}
use Rattle.pi_expr.proofs.go_on.enter_dot.Goals as goal

pub returns-in-Atom : goal.returns-in-Atom
returns-in-Atom c = λ fs e h. rw (c.in-Next.ensures, c.in-Atom.is) (c.method.ensures fs e h)

pub returns-in_default : goal.returns-in_default
returns-in_default c = λ fs e h. rw (dots_no fs e _ _ _ c.in-Next.ensures c.in_default.not-Atom) (c.refuse.ensures fs)

pub returns-in-End : goal.returns-in-End
returns-in-End c = λ fs e h. rw c.in-End.ensures (c.refuse-in-End.ensures fs)
