use Rattle.std.proofs.Common.{sym, subst}
use Rattle.pi_expr_phrases.specs.Machine as m
use Rattle.pi_syntax.specs.ExpTree.{ExpTree, levels}
use Rattle.pi_syntax.specs.Crowding.{most_levels}
use Rattle.std.specs.Prelude.{◌≤◌}
use Rattle.pi_expr.proofs.reader.whole.Goals as goal

pub returns-in-Tree : goal.returns-in-Tree
returns-in-Tree c = λ s e r h. let k = rw c.in-Tree.is at h in (subst (λ (t : ExpTree). m.Runs s t) (sym k.0) r, subst (λ (t : ExpTree). levels t ≤ most_levels) (sym k.0) (rw k.1 k.2))

pub returns-in-Deep : goal.returns-in-Deep
returns-in-Deep c = λ s e r h. (e, (r, rw c.in-Deep.is at h))
