use Rattle.std.proofs.Common.{subst}
use Rattle.std.proofs.lemmas.Result.{IfOk-weaker}
use Rattle.pi_engine_arenas.specs.Arenas.{view_of}
use Rattle.pi_engine_stands.specs.Stands.{World, world, Stands}
use Rattle.pi_engine_stands.proofs.RulesTried.{guarding-taken}
use Rattle.pi_engine_steps.proofs.rules.apply.Goals as goal

pub returns-in-None : goal.returns-in-None
returns-in-None g c = IfOk-weaker c.take_rule.result _ _ (λ _ so l called clause cs s k es e applies now.
    let run = c.args.run.now in
    let call = c.args.call.now in
    let after = c.take_rule.new.run in
    let before : World _ = world l (g.S.StateStore.seen run.store) g.S.StateStore.order (view_of run.arenas) in
    subst (Stands (world l (g.S.StateStore.seen after.store) g.S.StateStore.order (view_of after.arenas)) after.now)
    (guarding-taken before call.predicate call.base call.frame c.args.number called clause cs s k es c.args.is_again c.args.predicate.now c.args.rule.now e applies c.in-None.is now)
    (so l called clause cs s k es e applies)) c.take_rule.ensures

pub returns-in-Some : goal.returns-in-Some
returns-in-Some g c = IfOk-weaker c.enter_guard.result _ _ (λ _ so l called clause cs s k es e applies now. so l c.args.rule.now called clause cs s k es e applies c.in-Some.is now) c.enter_guard.ensures
