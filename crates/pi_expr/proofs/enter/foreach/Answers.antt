use Rattle.std.proofs.Common.{refl}
use Rattle.pi_expr_phrases.specs.Machine as m
use Rattle.pi_syntax.specs.ExpTree.{no_exps}
use Rattle.pi_expr.proofs.enter.foreach.Goals as goal

pub returns : goal.returns
returns c = λ fs. c.open_behind.ensures fs (m.items m.of_foreach no_exps) (m.of_foreach, (no_exps, (refl, (refl, c.new.ensures))))
