use Rattle.std.proofs.Common.{refl}
use Rattle.pi_expr_phrases.specs.Machine as m
use Rattle.pi_expr.proofs.blocks.if_test.Goals as goal

pub returns : goal.returns
returns c = λ fs bs e h i. c.open_behind.ensures fs (m.if_body bs e) (bs, (e, (refl, (h, i))))
