use Rattle.pi_terms.specs.Tree.{var}
use Rattle.pi_lib_solve.proofs.NarrowLemmas.{copied}
use Rattle.pi_lib_solve.proofs.narrowing.domain.Goals as goal

pub returns : goal.returns
returns g c = λ d is has.
    copied (g.S.StateStore.seen c.args.s.now) c.var_ref-at.result c.args.variable d c.in_ok-found.found is has c.var_ref-at.ensures (λ at. c.in_ok-found.ensures (var c.args.variable) at is.acyclic)
