use Rattle.std.proofs.Common.{subst}
use Rattle.std.proofs.lemmas.Result.{IfOk-weaker}
use Rattle.pi_lib.specs.Outcomes.{ShowsOutcome}
use Rattle.pi_engine_steps.proofs.CallsDone.{done-comes, raised-comes}
use Rattle.pi_engine_steps.proofs.built_ins.next_of.Goals as goal

pub returns-in-Ok : goal.returns-in-Ok
returns-in-Ok g c = IfOk-weaker c.done.result _ _ (λ now so v e state shows.
    let w = g.S.StateStore.seen c.args.store.now in
    done-comes v w c.args.mode c.args.behind c.in-Ok.outcome e now (subst (λ r. ShowsOutcome v w r e) c.in-Ok.is shows) so) c.done.ensures

pub returns-in_ok-raised-in-Err : goal.returns-in_ok-raised-in-Err
returns-in_ok-raised-in-Err g c = λ v e state shows.
    let w = g.S.StateStore.seen c.args.store.now in
    raised-comes v w c.args.mode c.args.behind c.in-Err.stop e c.in_ok-raised-in-Err.field-0 state (subst (λ r. ShowsOutcome v w r e) c.in-Err.is shows) c.in_ok-raised-in-Err.ensures
