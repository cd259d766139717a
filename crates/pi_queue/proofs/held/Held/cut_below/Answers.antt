use Rattle.std.proofs.Common.{arith}
use Rattle.std.proofs.lemmas.Int.{ints}
use Rattle.pi_queue.proofs.HeldLemmas.{none-below}
use Rattle.pi_queue.proofs.held.Held.cut_below.Goals as goal

pub returns-then-n-from : goal.returns-then-n-from
returns-then-n-from g c = let w = c.least.ensures.within in none-below c.args.self.now c.args.n c.least.ensures.spans (omega (arith, ints, c.least.ensures.is, c.if-n-from.true, w.0, w.1))
