use Rattle.std.proofs.Common.{refl}
use Rattle.pi_expr_phrases.specs.Machine as m
use Rattle.pi_syntax.specs.ExpTree as tree
use Rattle.pi_expr.proofs.enter.atom.Goals as goal

pub returns-in-Some : goal.returns-in-Some
returns-in-Some c = λ fs. rw (c.in-Some.ensures.0, c.in-Some.ensures.1) (c.arguments.ensures fs (m.of_call c.args.name.now) (refl, c.new.ensures))

pub returns-in_ok-atom-in-None : goal.returns-in_ok-atom-in-None
returns-in_ok-atom-in-None c = λ fs. rw c.in-None.ensures (c.found.ensures fs (tree.atom c.args.name.now) c.in_ok-atom-in-None.ensures)
