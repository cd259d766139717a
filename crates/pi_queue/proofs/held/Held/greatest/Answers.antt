use Rattle.std.proofs.Common.{arith, sym, ◌∙◌}
use Rattle.std.proofs.lemmas.Int.{ints}
use Rattle.pi_prop_places.proofs.DomainLemmas.{last_is, within_last}
use Rattle.pi_queue.proofs.HeldLemmas.{none-greatest, last-at}
use Rattle.pi_queue.proofs.held.Held.greatest.Goals as goal

pub returns-then-count-eq0-clause-is : goal.returns-then-count-eq0-clause-is
returns-then-count-eq0-clause-is g c = none-greatest c.args.self.now (sym c.len-count.ensures.count ∙ c.if-count-eq0.true)

pub returns-clause-is : goal.returns-clause-is
returns-clause-is g c =
    let at = last-at c.args.self.now c.len-count.result c.span.result c.len-count.ensures.count c.if-count-eq0.false c.span.ensures in
    let e = last_is c.args.self.now c.span.result at in
    let b = within_last c.args.self.now c.span.result c.len-count.ensures.domain at in
    omega (arith, ints, e, b.0, b.1)

pub returns-clause-within : goal.returns-clause-within
returns-clause-within g c =
    let at = last-at c.args.self.now c.len-count.result c.span.result c.len-count.ensures.count c.if-count-eq0.false c.span.ensures in
    let b = within_last c.args.self.now c.span.result c.len-count.ensures.domain at in
    (omega (arith, ints, b.0, b.1), omega (arith, ints, b.0, b.1))
