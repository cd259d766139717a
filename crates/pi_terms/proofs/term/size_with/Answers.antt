use Rattle.std.proofs.Common.{arith, ◌+◌}
use Rattle.pi_terms.specs.Tree.{cells}
use Rattle.pi_terms.proofs.TermLemmas.{cells_all-take, cells_all-take_bound}
use Rattle.pi_terms.proofs.term.size_with.Goals as goal

pub loop-arg-init : goal.loop-arg-init
unfolding cells
loop-arg-init c = omega arith

pub loop-arg-preserved : goal.loop-arg-preserved
loop-arg-preserved c =
    let more = cells_all-take c.args.args.now c.loop-arg.arg-index c.arg-item.result c.loop-arg-test.true c.arg-item.is in
    omega (arith, c.in_ok-size.ensures)

pub returns-in_err-size-clause-none : goal.returns-in_err-size-clause-none
returns-in_err-size-clause-none c none =
    let more = cells_all-take c.args.args.now c.loop-arg.arg-index c.arg-item.result c.loop-arg-test.true c.arg-item.is in
    let bound = cells_all-take_bound c.args.args.now (c.loop-arg.arg-index + 1) in
    omega (arith, c.in_err-size.ensures)
