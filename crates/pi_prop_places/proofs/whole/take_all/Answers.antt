use Rattle.std.proofs.Common.{arith}
use Rattle.pi_prop_places.proofs.WholeLemmas.{emptied_none, emptied_more, emptied_all}
use Rattle.pi_prop_places.proofs.whole.take_all.Goals as goal

pub loop-k-init : goal.loop-k-init
loop-k-init g c = emptied_none (g.P.Places.domains c.args.places.now)

pub loop-k-preserved : goal.loop-k-preserved
loop-k-preserved g c = emptied_more c.loop-k.k c.nothing-none.result (g.P.Places.domains c.args.places.now) (g.P.Places.domains c.loop-k.places) _ c.nothing-none.ensures c.loop-k.invariant c.in_ok-keep.ensures

pub returns : goal.returns
returns g c = emptied_all c.loop-k.k (g.P.Places.domains c.args.places.now) (g.P.Places.domains c.loop-k.places) (omega (arith, c.count-k-end.ensures, c.loop-k-test.false)) c.loop-k.invariant
