use Rattle.std.proofs.Common.{refl, sym}
use Rattle.pi_expr_phrases.specs.Machine as m
use Rattle.pi_expr.proofs.go_on.join.Goals as goal

pub returns : goal.returns
returns c = λ fs e h. rw (sym c.rank-loose.ensures.rank, sym c.rank-rank.ensures) (c.open_when.ensures fs (m.joining _ _ e) (e, (refl, h)))
