use Rattle.std.proofs.Common.{arith}
use Rattle.std.proofs.lemmas.Int.{ints}
use Rattle.pi_label.proofs.ChoiceLemmas.{next-above}
use Rattle.pi_label.proofs.alternatives.value_above.Goals as goal

pub returns : goal.returns
returns c = next-above c.args.d.now _ c.args.n _ c.min.result c.in_ok-above.ensures.values c.min.ensures.some c.min.ensures.none (omega (arith, ints, c.from.ensures))
