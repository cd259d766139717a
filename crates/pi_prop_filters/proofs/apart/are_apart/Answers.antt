use Rattle.pi_prop_filters.proofs.ApartLemmas.{apart_none, apart_all}
use Rattle.pi_prop_filters.proofs.apart.are_apart.Goals as goal

pub loop-i-init : goal.loop-i-init
loop-i-init c = apart_none c.args.items.now 0

pub returns : goal.returns
returns c = λ t. apart_all c.args.items.now c.loop-i.i c.loop-i.next c.loop-i-test.false c.loop-i.invariant
