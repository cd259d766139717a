use Rattle.pi_prop_made.specs.Finished.{posting_as}
use Rattle.pi_lib_constraints.proofs.PostLemmas.{posting-put-at}
use Rattle.pi_lib_constraints.proofs.posting.put_posting.Goals as goal

pub returns-clause-ok : goal.returns-clause-ok
returns-clause-ok g c = λ is may.
    posting-put-at (g.S.StateStore.seen c.args.s.now).now.state (g.S.StateStore.seen c.make_variables.new.s).now.state (g.S.StateStore.seen c.post_all.new.s).now.state (g.S.StateStore.seen c.confine_all.new.s).now.state (posting_as c.args.posting.now) c.as_slice.result.now
    c.as_slice-2.result.now c.as_slice.ensures c.as_slice-2.ensures is may c.in_ok-make_variables.ensures.ok c.in_ok-post_all.ensures.ok (λ b. c.in_ok-confine_all.ensures.ok b c.in_ok-default.ensures)
