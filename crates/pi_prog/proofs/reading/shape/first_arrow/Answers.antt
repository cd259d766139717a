use Rattle.std.proofs.Common.{refl, sym}
use Rattle.pi_prog.proofs.reading.ShapeLemmas.{walked_here, walked_more, walked_all}
use Rattle.pi_prog.proofs.reading.shape.first_arrow.Goals as goal

pub returns-in-Some : goal.returns-in-Some
returns-in-Some c = (c.loop-i.auto.i, c.loop-i-test.true, walked_here _ _ _ _ _ _ c.loop-i.auto.i c.loop-i-test.true c.kind-token.ensures.token (sym c.in-Some.ensures) c.loop-i.invariant)

pub loop-i-preserved : goal.loop-i-preserved
loop-i-preserved c = walked_more _ _ _ _ _ _ refl c.loop-i.auto.i c.loop-i-test.true c.kind-token.ensures.token (sym c.in-None.ensures) c.loop-i.invariant

pub returns : goal.returns
returns c = walked_all _ _ _ _ c.loop-i-test.false c.loop-i.invariant
