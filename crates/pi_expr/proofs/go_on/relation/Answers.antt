use Rattle.std.proofs.Common.{refl, sym}
use Rattle.pi_expr_phrases.specs.Machine as m
use Rattle.pi_expr.proofs.go_on.relation.Goals as goal

pub returns : goal.returns
returns c = λ fs e b h. rw (sym c.rank-rank.ensures) (c.open_when.ensures fs (m.relation _ e) (e, (refl, h)))
