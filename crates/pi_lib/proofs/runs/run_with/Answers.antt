use Rattle.std.proofs.Common.{length, subst}
use Rattle.pi_lib.specs.Outcomes.{ShowsOutcome}
use Rattle.pi_lib.specs.Runs.{DoesCall}
use Rattle.pi_lib.proofs.RunLemmas.{step-shown, step-raised}
use Rattle.pi_lib.proofs.runs.run_with.Goals as goal

pub returns-in-Ok-clause-shows : goal.returns-in-Ok-clause-shows
returns-in-Ok-clause-shows g c = λ ts e state terms does.
    let v = g.S.StateStore.seen c.args.s.now in
    let w = g.S.StateStore.seen c.call_predicate.new.s in
    let call = subst (λ p. DoesCall v.now.state (length c.args.args.now) ts p e) c.in-Some.is does in
    step-shown v w c.in-Ok.outcome c.step_of.result e c.step_of.ensures (subst (λ r. ShowsOutcome v w r e) c.in-Ok.is (c.call_predicate.ensures.shows ts e state terms call.0 call.1))

pub returns-in-Some-ball-clause-shows : goal.returns-in-Some-ball-clause-shows
returns-in-Some-ball-clause-shows g c = λ ts e state terms does.
    let v = g.S.StateStore.seen c.args.s.now in
    let w = g.S.StateStore.seen c.call_predicate.new.s in
    let call = subst (λ p. DoesCall v.now.state (length c.args.args.now) ts p e) c.in-Some.is does in
    step-raised v w c.in-Err.stop e c.in-Some-ball.ball state (subst (λ r. ShowsOutcome v w r e) c.in-Err.is (c.call_predicate.ensures.shows ts e state terms call.0 call.1)) c.in-Some-ball.ensures
