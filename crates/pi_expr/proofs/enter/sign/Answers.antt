use Rattle.std.proofs.Common.{refl, sym}
use Rattle.pi_expr_phrases.specs.Machine as m
use Rattle.pi_expr.proofs.enter.sign.Goals as goal

pub returns : goal.returns
returns c = λ fs h. rw (h, sym c.rank-rank.ensures) (c.open_when.ensures fs (m.signed _ _) refl)
