use Rattle.std.proofs.Common.{refl}
use Rattle.pi_expr.proofs.made.read_as.Goals as goal

pub returns-in-Ok : goal.returns-in-Ok
returns-in-Ok c = λ fs e h. (e, (refl, rw c.in-Ok.is at h))
