use Rattle.std.proofs.Common.{refl}
use Rattle.pi_expr_phrases.specs.Machine as m
use Rattle.pi_expr.proofs.blocks.while_test.Goals as goal

pub returns : goal.returns
returns c = λ fs e h. c.open_behind.ensures fs (m.while_body e) (e, (refl, h))
