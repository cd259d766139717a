use Rattle.std.proofs.Common.{arith, ◌≡◌, ◌-◌, length, slice_get, Some}
use Rattle.std.proofs.lemmas.Int.{ints}
use Rattle.pi_prop_places.proofs.DomainLemmas.{last_is, within_last, nothing_greatest}
use Rattle.pi_prop_places.proofs.domains.last.Goals as goal

pub returns-in-Some-clause-is : goal.returns-in-Some-clause-is
returns-in-Some-clause-is c = let at : slice_get c.args.domain.now (length c.args.domain.now - 1) ≡ Some c.in-Some.span.now = grind (arith, c.last.ensures.value, c.in-Some.is, c.spans.ensures.all) in let e = last_is c.args.domain.now c.in-Some.span.now at in let b = within_last c.args.domain.now c.in-Some.span.now c.spans.ensures.domain at in omega (arith, ints, e, b.0, b.1)

pub returns-in-Some-clause-within : goal.returns-in-Some-clause-within
returns-in-Some-clause-within c = let at : slice_get c.args.domain.now (length c.args.domain.now - 1) ≡ Some c.in-Some.span.now = grind (arith, c.last.ensures.value, c.in-Some.is, c.spans.ensures.all) in let b = within_last c.args.domain.now c.in-Some.span.now c.spans.ensures.domain at in (omega (arith, ints, b.0, b.1), omega (arith, ints, b.0, b.1))

pub returns-in-None-clause-is : goal.returns-in-None-clause-is
returns-in-None-clause-is c = nothing_greatest c.args.domain.now (grind (arith, c.last.ensures.value, c.in-None.is, c.spans.ensures.all))
