use Rattle.std.proofs.Common.{arith}
use Rattle.std.proofs.lemmas.Int.{ints}
use Rattle.pi_prop_places.proofs.DomainLemmas.{within_first}
use Rattle.pi_queue.proofs.HeldLemmas.{first-at}
use Rattle.pi_queue.proofs.held.Held.least.Goals as goal

pub returns-clause-within : goal.returns-clause-within
returns-clause-within g c =
    let at = first-at c.args.self.now c.len.result c.span.result c.len.ensures.count c.if-len-eq0.false c.span.ensures in
    let b = within_first c.args.self.now c.span.result c.len.ensures.domain at in
    (omega (arith, ints, b.0, b.1), omega (arith, ints, b.0, b.1))
