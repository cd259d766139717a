use Rattle.std.proofs.Common.{arith}
use Rattle.std.proofs.lemmas.Int.{ints}
use Rattle.pi_label.proofs.ChoiceLemmas.{next-below}
use Rattle.pi_label.proofs.alternatives.value_below.Goals as goal

pub returns : goal.returns
returns c = next-below c.args.d.now _ c.args.n _ c.max.result c.in_ok-below.ensures.values c.max.ensures.some c.max.ensures.none (omega (arith, ints, c.from.ensures))
