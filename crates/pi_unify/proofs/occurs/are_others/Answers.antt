use Rattle.std.proofs.Common.{◌∙◌, arith}
use Rattle.pi_unify.proofs.OccursLemmas.{others_first, others_next, others_end}
use Rattle.pi_unify.proofs.occurs.are_others.Goals as goal

pub loop-i-init : goal.loop-i-init
loop-i-init g c = λ is ref size. others_first (g.S.StateStore.seen c.args.s.now) c.args.v c.args.of

pub loop-i-preserved : goal.loop-i-preserved
loop-i-preserved g c = λ is ref size.
    c.loop-i.invariant is ref size ∙ others_next (g.S.StateStore.seen c.args.s.now) c.args.v c.loop-i.i c.args.count c.args.of c.arg.result is ref size c.loop-i-test.true c.arg.ensures (c.is_another.ensures c.if-not-is_another.false)

pub returns : goal.returns
returns g c = λ yes is ref size.
    c.loop-i.invariant is ref size ∙ others_end (g.S.StateStore.seen c.args.s.now) c.args.v c.loop-i.i c.args.count c.args.of size (omega (arith, c.loop-i-test.false))
