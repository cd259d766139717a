use Rattle.pi_expr.proofs.go_on.go_on.Goals as goal

pub returns-in-Next : goal.returns-in-Next
returns-in-Next c = λ fs e h. rw c.in-Next.ensures (c.go_on_by.ensures fs e h)

pub returns-in-End : goal.returns-in-End
returns-in-End c = λ fs e h. rw c.in-End.ensures (c.refuse.ensures fs)
