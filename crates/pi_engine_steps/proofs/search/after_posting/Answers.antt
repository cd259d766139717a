use Rattle.std.proofs.Common.{subst}
use Rattle.std.proofs.lemmas.Result.{IfOk-weaker}
use Rattle.pi_engine_stands.specs.Searches.{round_end}
use Rattle.pi_engine_stands.specs.Settling.{GoesOnTo}
use Rattle.pi_engine_steps.specs.Rounds.{ShowsPosting}
use Rattle.pi_engine_steps.proofs.RoundsPost.{round-comes, round-raised}
use Rattle.pi_engine_steps.proofs.search.after_posting.Goals as goal

pub returns-in-Ok : goal.returns-in-Ok
returns-in-Ok g c = IfOk-weaker c.next_after.result _ _ (λ now so v e state since shows leaves.
    let w = g.S.StateStore.seen c.args.store.now in
    round-comes v.now.state w.now.state (round_end c.args.base) e now (subst (λ r. ShowsPosting v w r e) c.in-Ok.is shows) leaves
    (λ left. subst (λ q. GoesOnTo v.now.state w.now.state q now) c.end_of_round.ensures (so v.now.state since (λ one. left)))) c.next_after.ensures

pub returns-in_ok-raised-in-Err : goal.returns-in_ok-raised-in-Err
returns-in_ok-raised-in-Err g c = λ v e state since shows leaves.
    let w = g.S.StateStore.seen c.args.store.now in
    round-raised v w (round_end c.args.base) c.in-Err.stop e c.in_ok-raised-in-Err.field-0 state (subst (λ r. ShowsPosting v w r e) c.in-Err.is shows) c.in_ok-raised-in-Err.ensures
