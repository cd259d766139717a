use Rattle.std.proofs.Common.{arith}
use Rattle.std.proofs.lemmas.Int.{ints}
use Rattle.pi_queue.proofs.HeldLemmas.{none-above}
use Rattle.pi_queue.proofs.held.Held.cut_above.Goals as goal

pub returns-then-from-n : goal.returns-then-from-n
returns-then-from-n g c = let w = c.greatest.ensures.within in none-above c.args.self.now c.args.n c.greatest.ensures.spans (omega (arith, ints, c.greatest.ensures.is, c.if-from-n.true, w.0, w.1))
