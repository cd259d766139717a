use Rattle.std.proofs.Common.{subst}
use Rattle.std.proofs.lemmas.Result.{IfOk-weaker}
use Rattle.pi_lib.specs.Outcomes.{ShowsOutcome}
use Rattle.pi_engine_steps.proofs.GoalsLeave.{posted-comes, yes-leaves, posting-raised}
use Rattle.pi_engine_steps.proofs.constraints.next_of.Goals as goal

pub returns-in-Ok : goal.returns-in-Ok
returns-in-Ok g c = IfOk-weaker c.done.result _ _ (λ now so v e state since shows leaves.
    let w = g.S.StateStore.seen c.args.store.now in
    let here = subst (λ r. ShowsOutcome v w r e) c.in-Ok.is shows in
    posted-comes v w v.now.state c.args.behind c.in-Ok.outcome e now here leaves (so v.now.state since (yes-leaves v w v.now.state c.in-Ok.outcome e here leaves))) c.done.ensures

pub returns-in_ok-raised-in-Err : goal.returns-in_ok-raised-in-Err
returns-in_ok-raised-in-Err g c = λ v e state since shows leaves.
    let w = g.S.StateStore.seen c.args.store.now in
    posting-raised v w v.now.state c.args.behind c.in-Err.stop e c.in_ok-raised-in-Err.field-0 state (subst (λ r. ShowsOutcome v w r e) c.in-Err.is shows) c.in_ok-raised-in-Err.ensures
