use Rattle.std.proofs.Common.{arith}
use Rattle.std.proofs.lemmas.Int.{ints}
use Rattle.pi_settling.specs.Choices.{at_most}
use Rattle.pi_lib_solve.proofs.NarrowLemmas.{up-to-kept}
use Rattle.pi_lib_solve.proofs.narrowing.keep_up_to.Goals as goal

pub returns-clause-left : goal.returns-clause-left
returns-clause-left g c = λ d is has.
    c.in_ok-some.ensures.left (at_most c.args.n) d is has (up-to-kept d c.in-Some.had c.in_ok-left.left c.in_ok-found.found c.args.n _ (c.in_ok-found.ensures d is has) c.in-Some.is c.in_ok-left.ensures.values (omega (arith, ints, c.from.ensures, c.ranges.n)))
