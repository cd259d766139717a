use Rattle.pi_constraints.specs.State.{bindings, followed}
use Rattle.pi_lib.proofs.PairLemmas.{pair_is, other_compound}
use Rattle.pi_lib.proofs.pairs.pair_at.Goals as goal

pub returns-then-is_pair : goal.returns-then-is_pair
returns-then-is_pair g c = λ t a is.
    pair_is (g.S.StateStore.seen c.args.s.now) c.args.term t c.in-Comp.name c.in-Comp.count c.is_pair.result c.arg.result c.arg-then-is_pair.result a is (c.in-Comp.ensures.shows t is a) c.is_pair.ensures c.if-is_pair.true c.arg.ensures c.arg-then-is_pair.ensures

pub returns-else-is_pair : goal.returns-else-is_pair
returns-else-is_pair g c = λ t a is.
    let v = g.S.StateStore.seen c.args.s.now in
    other_compound v (followed (bindings v.now.state) t) c.in-Comp.name c.in-Comp.count c.is_pair.result (c.in-Comp.ensures.shows t is a) c.is_pair.ensures c.if-is_pair.false
