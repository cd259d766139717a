use Rattle.std.proofs.Common.{refl}
use Rattle.pi_expr_phrases.proofs.frame.found.Goals as goal

pub returns : goal.returns
returns c = λ fs e h. (e, (refl, h))
