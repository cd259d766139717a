use Rattle.std.proofs.Common.{refl}
use Rattle.pi_expr.proofs.go_on.refuse.Goals as goal

pub returns : goal.returns
returns c = λ fs. refl
