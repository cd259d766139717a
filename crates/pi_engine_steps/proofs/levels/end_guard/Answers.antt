use Rattle.std.proofs.Common.{◌∙◌, min, sym, ap}
use Rattle.std.specs.Prelude.{slice_get}
use Rattle.std.proofs.lemmas.Result.{IfOk-weaker}
use Rattle.pi_engine_arenas.specs.Arenas.{view_of}
use Rattle.pi_engine_stands.specs.Stands.{World, world}
use Rattle.pi_engine_steps.proofs.RetriesStand.{guard-retried, tries-of}
use Rattle.pi_engine_steps.proofs.levels.end_guard.Goals as goal

pub returns : goal.returns
returns g c = IfOk-weaker c.retry.result _ _ (λ _ so l is_code named s b es it.
    let run = c.args.run.now in
    let after = c.retry.new.run in
    let w : World _ = world l (g.S.StateStore.seen run.store) g.S.StateStore.order (view_of run.arenas) in
    let u : World _ = world l (g.S.StateStore.seen after.store) g.S.StateStore.order (view_of after.arenas) in
    let end = c.end_of_rules.result in
    guard-retried w u c.args.back c.args.predicate c.args.rule c.min-next.result end s b es after.now named it
    (λ q found. c.end_of_rules.ensures q (ap (λ r. slice_get r.predicates.items c.args.predicate) (sym is_code) ∙ found)) c.end_of_rules.type_inv
    (c.min-next.ensures ∙ ap (λ n. min n end) c.saturating_add.ensures) (tries-of w u c.args.back c.call_of.result c.args.predicate c.min-next.result after.now c.call_of.ensures.predicate c.call_of.ensures.base c.call_of.ensures.frame (so l is_code))) c.retry.ensures
