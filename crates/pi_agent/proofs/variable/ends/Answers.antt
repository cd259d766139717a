use Rattle.std.proofs.Common.{arith, ◌≡◌, ◌-◌, length, slice_get, Some}
use Rattle.std.proofs.lemmas.Int.{ints}
use Rattle.pi_agent.proofs.LossLemmas.{greatest-none, last-within}
use Rattle.pi_agent.proofs.variable.ends.Goals as goal

pub returns-in_default-clause-greatest : goal.returns-in_default-clause-greatest
returns-in_default-clause-greatest c = greatest-none c.args.d.now (grind (arith, c.first.ensures.value, c.in_default.is, c.spans-spans.ensures.all))

pub returns-clause-greatest : goal.returns-clause-greatest
returns-clause-greatest c =
    let last : slice_get c.args.d.now (length c.args.d.now - 1) ≡ Some c.in-Some-last.last.now = grind (arith, c.last.ensures.value, c.in-Some-last.is, c.spans-spans.ensures.all) in
    let is = last-within c.args.d.now c.in-Some-last.last.now c.spans-spans.ensures.domain last in
    omega (arith, ints, is.0, is.1.0, is.1.1)
