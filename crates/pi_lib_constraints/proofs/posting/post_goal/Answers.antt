use Rattle.std.proofs.Common.{sym, subst}
use Rattle.std.specs.Prelude.{Err}
use Rattle.pi_prop_spec.specs.Postings.{posting_in}
use Rattle.pi_lib_constraints.specs.Posts.{ShowsPosted}
use Rattle.pi_lib_constraints.proofs.PostLemmas.{posted-shown, fault-shown}
use Rattle.pi_lib_constraints.proofs.posting.post_goal.Goals as goal

pub returns-in_ok-put_posting-in-Ok-clause-shows : goal.returns-in_ok-put_posting-in-Ok-clause-shows
returns-in_ok-put_posting-in-Ok-clause-shows g c = λ t is there below same.
    posted-shown (g.S.StateStore.seen c.args.s.now) (g.S.StateStore.seen c.put_posting.new.s) c.args.goal t c.in-Ok.posting (record { state = is; below = below; same = same }) (c.in-Ok.ensures is there) (c.in_ok-put_posting-in-Ok.ensures.ok is)

pub returns-in-Err-clause-shows : goal.returns-in-Err-clause-shows
returns-in-Err-clause-shows g c = λ t is there below same.
    let v = g.S.StateStore.seen c.args.s.now in
    subst (λ stop. ShowsPosted v v (Err stop) (posting_in v.now.state t)) (sym c.fault_of.ensures) (fault-shown v c.args.goal t c.in-Err.stop (record { state = is; below = below; same = same }) (c.in-Err.ensures is there))
