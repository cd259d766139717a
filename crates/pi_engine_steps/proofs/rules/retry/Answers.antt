use Rattle.std.proofs.Common.{◌∙◌, sym, ap, true}
use Rattle.std.specs.Prelude.{slice_get, option_copied}
use Rattle.std.proofs.lemmas.Result.{IfOk-weaker}
use Rattle.pi_engine_arenas.specs.Arenas.{view_of}
use Rattle.pi_engine_stands.specs.Stands.{world}
use Rattle.pi_engine_stands.proofs.RulesTried.{call-has}
use Rattle.pi_engine_steps.proofs.rules.retry.Goals as goal

pub returns-in_default : goal.returns-in_default
returns-in_default g c = λ l is_code called cs s k es is args same.
    let run = c.args.run.now in
    let call = c.args.call.now in
    call-has (world l (g.S.StateStore.seen run.store) g.S.StateStore.order (view_of run.arenas)) call.predicate call.base call.frame c.args.from called cs s k es true
    (ap (λ r. slice_get r.predicates.items call.predicate) is_code ∙ sym c.predicate_there.ensures ∙ ap option_copied c.in_default.is) is

pub returns : goal.returns
returns g c = IfOk-weaker c.try_rules.result _ _ (λ _ so l is_code. so l is_code (sym c.predicate_there.ensures ∙ ap option_copied c.in-Some.is)) c.try_rules.ensures
