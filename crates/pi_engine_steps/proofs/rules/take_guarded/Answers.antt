use Rattle.std.proofs.Common.{◌∙◌, sym, ap, true}
use Rattle.std.specs.Prelude.{slice_get, option_copied}
use Rattle.std.proofs.lemmas.Result.{IfOk-weaker}
use Rattle.pi_engine_arenas.specs.Arenas.{view_of}
use Rattle.pi_engine_stands.specs.Stands.{World, world}
use Rattle.pi_engine_stands.proofs.GuardsTaken.{guard-taken, guard-found, applies-at, none-found}
use Rattle.pi_engine_steps.proofs.rules.take_guarded.Goals as goal

pub returns-in_default : goal.returns-in_default
returns-in_default g c = λ l is_code called clause cs s k below e is.
    let before : World _ = world l (g.S.StateStore.seen c.args.run.now.store) g.S.StateStore.order (view_of c.args.run.now.arenas) in
    let there = guard-found before c.args.level c.args.predicate c.args.number c.args.back called clause cs s k below e is in
    none-found (option_copied c.rule.result) there.0 (ap option_copied c.in_default.is) (c.rule.ensures ∙ ap (λ r. slice_get r.rules.items c.args.number) (sym is_code) ∙ there.1)

pub returns : goal.returns
returns g c = IfOk-weaker c.take_rule.result _ _ (λ _ so l is_code called clause cs s k below e is.
    let seen = g.S.StateStore.seen in
    let order = g.S.StateStore.order in
    let run = c.args.run.now in
    let back = c.args.back in
    let rule = c.in-Some.rule.now in
    let number = c.args.number in
    let b = view_of c.return_to.new.self in
    let before : World _ = world l (seen run.store) order (view_of run.arenas) in
    let returns = c.return_to.ensures in
    so l called clause cs s k below e
    (applies-at (world l (seen run.store) order b) c.args.predicate c.call_of.result.predicate back.base c.call_of.result.base back.frame c.call_of.result.frame number called clause cs s k below true
    c.predicate-called.result rule e c.call_of.ensures.predicate c.call_of.ensures.base c.call_of.ensures.frame
    (guard-taken before b c.args.level c.args.predicate number c.end_of_slots-slots.result back called clause cs s k below c.predicate-called.result rule e is
    (record { entries = returns.entries; kept = returns.kept; held = returns.slots; keeps = returns.keeps; frames = returns.frames; level = returns.level; collected = returns.collected })
    (ap (λ r. slice_get r.rules.items number) is_code ∙ sym c.rule.ensures ∙ ap option_copied c.in-Some.is)
    (λ q at. c.predicate-called.ensures q (ap (λ r. slice_get r.predicates.items c.args.predicate) (sym is_code) ∙ at))
    c.end_of_slots-slots.ensures))) c.take_rule.ensures
