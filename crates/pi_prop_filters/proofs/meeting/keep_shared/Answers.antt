use Rattle.pi_prop_filters.proofs.MeetLemmas.{shared_alone, shared_kept}
use Rattle.pi_prop_filters.proofs.meeting.keep_shared.Goals as goal

pub returns-then-j-k : goal.returns-then-j-k
returns-then-j-k g c = shared_alone (g.P.Places.domains c.args.places.now) c.args.j c.args.k c.if-j-k.true

pub returns : goal.returns
returns g c = shared_kept c.args.k c.args.j _ (g.P.Places.domains c.args.places.now) _ c.in_ok-keep.ensures c.in_ok-domain.ensures
