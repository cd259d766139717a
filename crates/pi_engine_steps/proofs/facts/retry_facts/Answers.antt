use Rattle.std.proofs.Common.{◌∙◌, sym, ap}
use Rattle.std.specs.Prelude.{slice_get, option_copied}
use Rattle.std.proofs.lemmas.Result.{IfOk-weaker}
use Rattle.pi_engine_arenas.specs.Arenas.{view_of}
use Rattle.pi_engine_stands.specs.Stands.{World, world}
use Rattle.pi_engine_steps.proofs.FactsTried.{facts-retried, facts-of, no-facts}
use Rattle.pi_engine_steps.proofs.facts.retry_facts.Goals as goal

pub returns-in_default : goal.returns-in_default
returns-in_default g c = λ l is_code named y es it.
    let run = c.args.run.now in
    no-facts (world l (g.S.StateStore.seen run.store) g.S.StateStore.order (view_of run.arenas)) c.args.back c.args.predicate c.args.from y es named it
    (ap (λ r. slice_get r.predicates.items c.args.predicate) is_code ∙ sym c.predicate_there.ensures ∙ ap option_copied c.in_default.is)

pub returns : goal.returns
returns g c = IfOk-weaker c.try_facts.result _ _ (λ _ so l is_code named y es it.
    let seen = g.S.StateStore.seen in
    let order = g.S.StateStore.order in
    let run = c.args.run.now in
    let end = c.try_facts.new.run in
    let w : World _ = world l (seen run.store) order (view_of run.arenas) in
    let after : World _ = world l (seen end.store) order (view_of end.arenas) in
    facts-retried w after c.args.back c.args.predicate c.args.from y es end.now named it
    (facts-of w after c.args.back c.call_of-call.result c.args.predicate c.args.from end.now c.call_of-call.ensures.predicate c.call_of-call.ensures.base c.call_of-call.ensures.frame
    (so l is_code (ap (slice_get c.args.code.now.predicates.items) c.call_of-call.ensures.predicate ∙ (sym c.predicate_there.ensures ∙ ap option_copied c.in-Some.is))))) c.try_facts.ensures
