use Rattle.pi_prop_filters.proofs.MeetLemmas.{gathered_none, gathered_more}
use Rattle.pi_prop_filters.proofs.meeting.gather.Goals as goal

pub loop-k-init : goal.loop-k-init
loop-k-init g c = gathered_none c.args.roots.now (g.P.Places.domains c.args.places.now)

pub loop-k-preserved : goal.loop-k-preserved
loop-k-preserved g c = gathered_more c.loop-k.k c.args.roots.now (g.P.Places.domains c.args.places.now) (g.P.Places.domains c.loop-k.places) _ c.requires c.loop-k-test.true c.loop-k.invariant c.in_ok-keep_shared.ensures
