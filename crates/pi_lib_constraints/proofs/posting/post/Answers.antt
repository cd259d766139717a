use Rattle.pi_prop_spec.specs.Postings.{posting_in}
use Rattle.pi_lib_constraints.proofs.PostLemmas.{posted-outcome, refused-outcome}
use Rattle.pi_lib_constraints.proofs.posting.post.Goals as goal

pub returns-in-Ok-clause-shows : goal.returns-in-Ok-clause-shows
returns-in-Ok-clause-shows g c = λ t is there below same.
    let v = g.S.StateStore.seen c.args.s.now in
    let w = g.S.StateStore.seen c.post_goal.new.s in
    posted-outcome v w (posting_in v.now.state t) (c.in-Ok.ensures.shows t is there below same)

pub returns-in-Err-clause-shows : goal.returns-in-Err-clause-shows
returns-in-Err-clause-shows g c = λ t is there below same.
    let v = g.S.StateStore.seen c.args.s.now in
    let w = g.S.StateStore.seen c.post_goal.new.s in
    refused-outcome v w c.in-Err.stop (posting_in v.now.state t) (c.in-Err.ensures.shows t is there below same)
