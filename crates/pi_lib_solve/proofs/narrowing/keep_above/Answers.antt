use Rattle.std.proofs.Common.{arith}
use Rattle.std.proofs.lemmas.Int.{ints}
use Rattle.pi_settling.specs.Choices.{above}
use Rattle.pi_lib_solve.proofs.NarrowLemmas.{above-kept}
use Rattle.pi_lib_solve.proofs.narrowing.keep_above.Goals as goal

pub returns-clause-left : goal.returns-clause-left
returns-clause-left g c = λ d is has.
    c.in_ok-some.ensures.left (above c.args.n) d is has (above-kept d c.in-Some.had c.in_ok-left.left c.in_ok-found.found c.args.n _ (c.in_ok-found.ensures d is has) c.in-Some.is c.in_ok-left.ensures.values (omega (arith, ints, c.from.ensures, c.ranges.n)))
