use Rattle.std.proofs.Common.{arith}
use Rattle.std.proofs.lemmas.Int.{ints}
use Rattle.pi_prop_places.proofs.DomainLemmas.{within_first}
use Rattle.pi_prop_places.proofs.domains.first.Goals as goal

pub returns-in-Some-clause-within : goal.returns-in-Some-clause-within
returns-in-Some-clause-within c = let b = within_first c.args.domain.now c.in-Some.span.now c.spans.ensures.domain (grind (arith, c.first.ensures.value, c.in-Some.is, c.spans.ensures.all)) in (omega (arith, ints, b.0, b.1), omega (arith, ints, b.0, b.1))
