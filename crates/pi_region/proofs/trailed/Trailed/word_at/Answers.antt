use Rattle.std.proofs.Common.{refl}
use Rattle.pi_region.proofs.HistoryLemmas.{goes_on, comes_nearer, arrived}
use Rattle.pi_region.proofs.trailed.Trailed.word_at.Goals as goal

pub loop-past-init : goal.loop-past-init
loop-past-init c = (c.args.self.now, record { region = refl; end = c.end.ensures; word = c.get.ensures; count = c.count.ensures.len }, refl)

pub loop-past-preserved : goal.loop-past-preserved
loop-past-preserved c = let i = c.loop-past.invariant in
    goes_on c.args.self.now i.0 c.args.len c.args.n c.loop-past.past c.before-past.result i.1 i.2 c.loop-past-test.true (c.before-past.ensures i.0 i.1)

pub loop-past-smaller : goal.loop-past-smaller
loop-past-smaller c = let i = c.loop-past.invariant in
    comes_nearer c.args.self.now i.0 c.args.n c.args.len c.loop-past.past c.before-past.result i.1 c.loop-past-test.true (c.before-past.ensures i.0 i.1)

pub returns : goal.returns
returns c = let i = c.loop-past.invariant in arrived c.args.self.now i.0 c.args.len c.args.n c.loop-past.past i.1 i.2 c.loop-past-test.false
