use Rattle.pi_expr.proofs.made.read_before.Goals as goal

pub returns-in-Ok : goal.returns-in-Ok
returns-in-Ok c = λ fs e h. c.found_behind.ensures fs e (rw c.in-Ok.is at h)
