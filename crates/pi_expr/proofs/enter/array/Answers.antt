use Rattle.std.proofs.Common.{refl}
use Rattle.pi_expr_phrases.specs.Machine as m
use Rattle.pi_syntax.specs.ExpTree.{no_exps}
use Rattle.pi_syntax.specs.ExpTree as tree
use Rattle.pi_expr.proofs.enter.array.Goals as goal

pub returns-in-Some : goal.returns-in-Some
returns-in-Some c = λ fs. rw (c.in-Some.ensures.0, c.in-Some.ensures.1) (c.found.ensures fs (tree.array no_exps) (c.array.ensures no_exps c.new-items.ensures))

pub returns-in-None : goal.returns-in-None
returns-in-None c = λ fs. rw c.in-None.ensures (m.items m.of_array no_exps, (refl, (m.of_array, (no_exps, (refl, (refl, c.new-items.ensures))))))
