use Rattle.std.proofs.Common.{◌∷◌, ◌∙◌, refl, sym, ap, subst}
use Rattle.std.proofs.lemmas.Result.{IfOk-weaker}
use Rattle.pi_engine_arenas.specs.declared.run.End.{End as RunEnd}
use Rattle.pi_engine_arenas.specs.declared.run.Now.{Now}
use Rattle.pi_engine_arenas.specs.Arenas.{view_of, newest}
use Rattle.pi_engine_stands.specs.Goes.{Counting, counting}
use Rattle.pi_engine_stands.specs.Stands.{World, world}
use Rattle.pi_meaning.specs.Machine.Step.{fail_step}
use Rattle.pi_engine_stands.specs.Fails.{ComesBy}
use Rattle.pi_engine_stands.proofs.BackStand.{CameBack, came-back, nothing-there}
use Rattle.pi_engine_steps.proofs.RetriesStand.{rules-retried, tries-of}
use Rattle.pi_engine_stands.proofs.FailsStand.{fail-none, alternatives-fail, comes-by}
use Rattle.pi_engine_stands.proofs.StopsGo.{so-at-err}
use Rattle.pi_engine_steps.proofs.levels.fail.Goals as goal

pub returns-in_default-clause-fails : goal.returns-in_default-clause-fails
returns-in_default-clause-fails g c = λ l is_code es stands.
    let before = c.args.run.now in
    let after = c.come_back.new.run in
    let b = c.args.budget.now in
    let u : World _ = world l (g.S.StateStore.seen after.store) g.S.StateStore.order (view_of after.arenas) in
    comes-by (counting c.args.mode b b) u (Now.Ended RunEnd.Done) (fail_step es) refl
    (fail-none u (Now.Ended RunEnd.Done) es
    (nothing-there (world l (g.S.StateStore.seen before.store) g.S.StateStore.order (view_of before.arenas)) es stands (ap newest (sym c.come_back.ensures.entries) ∙ c.in_default.ensures.none)) refl)

pub returns-in-Rules-clause-fails : goal.returns-in-Rules-clause-fails
returns-in-Rules-clause-fails g c = IfOk-weaker c.retry.result _ _ (λ _ so l is_code es stands.
    let seen = g.S.StateStore.seen in
    let order = g.S.StateStore.order in
    let before = c.args.run.now in
    let entry = c.in-Some.entry.now in
    let back = entry.back in
    let there = c.come_back.new.run in
    let after = c.retry.new.run in
    let b = c.args.budget.now in
    let w : World _ = world l (seen there.store) order (view_of there.arenas) in
    let u : World _ = world l (seen after.store) order (view_of after.arenas) in
    let came : CameBack w back es =
    came-back (world l (seen before.store) order (view_of before.arenas)) (seen there.store) (view_of there.arenas) back es stands
    (c.come_back.ensures.some entry (ap newest (sym c.come_back.ensures.entries) ∙ c.in-Some.ensures.some)) in
    subst (λ r. ComesBy (counting c.args.mode b b) u after.now (fail_step r)) (sym came.is)
    (comes-by (counting c.args.mode b b) u after.now (fail_step (came.waits ∷ came.below)) refl
    (rules-retried w u back c.in-Rules.predicate c.in-Rules.next came.waits came.below after.now c.in-Rules.is came.back_at
    (tries-of w u back c.call_of-call.result c.in-Rules.predicate c.in-Rules.next after.now c.call_of-call.ensures.predicate c.call_of-call.ensures.base c.call_of-call.ensures.frame
    (so l is_code))))) c.retry.ensures

pub returns-in-Alternatives-clause-fails : goal.returns-in-Alternatives-clause-fails
returns-in-Alternatives-clause-fails g c = IfOk-weaker c.try_alternative.result _ _ (λ _ so l is_code es stands.
    let seen = g.S.StateStore.seen in
    let order = g.S.StateStore.order in
    let before = c.args.run.now in
    let entry = c.in-Some.entry.now in
    let back = entry.back in
    let there = c.come_back.new.run in
    let after = c.try_alternative.new.run in
    let counts : Counting = counting c.args.mode c.args.budget.now c.try_alternative.new.budget in
    let w : World _ = world l (seen there.store) order (view_of there.arenas) in
    let u : World _ = world l (seen after.store) order (view_of after.arenas) in
    let came : CameBack w back es =
    came-back (world l (seen before.store) order (view_of before.arenas)) (seen there.store) (view_of there.arenas) back es stands
    (c.come_back.ensures.some entry (ap newest (sym c.come_back.ensures.entries) ∙ c.in-Some.ensures.some)) in
    subst (λ r. ComesBy counts u after.now (fail_step r)) (sym came.is)
    (alternatives-fail w u back c.in-Alternatives.place c.in-Alternatives.left came.waits came.below counts after.now c.in-Alternatives.is came.back_at (so l c.in-Alternatives.is))) c.try_alternative.ensures.tries

pub returns-in_default-kind-clause-fails : goal.returns-in_default-kind-clause-fails
returns-in_default-kind-clause-fails g c = IfOk-weaker c.go_on_with.result _ _ (λ _ so l is_code es stands.
    let seen = g.S.StateStore.seen in
    let order = g.S.StateStore.order in
    let before = c.args.run.now in
    let entry = c.in-Some.entry.now in
    let back = entry.back in
    let there = c.come_back.new.run in
    let after = c.go_on_with.new.run in
    let b = c.args.budget.now in
    let u : World _ = world l (seen after.store) order (view_of after.arenas) in
    let came : CameBack (world l (seen there.store) order (view_of there.arenas)) back es =
    came-back (world l (seen before.store) order (view_of before.arenas)) (seen there.store) (view_of there.arenas) back es stands
    (c.come_back.ensures.some entry (ap newest (sym c.come_back.ensures.entries) ∙ c.in-Some.ensures.some)) in
    subst (λ r. ComesBy (counting c.args.mode b b) u after.now (fail_step r)) (sym came.is)
    (comes-by (counting c.args.mode b b) u after.now (fail_step (came.waits ∷ came.below)) refl
    (so l is_code c.in_default-kind.not-Rules c.in_default-kind.not-Alternatives came.waits came.below came.back_at))) c.go_on_with.ensures

pub returns-in-Rules-clause-stops : goal.returns-in-Rules-clause-stops
returns-in-Rules-clause-stops g c = so-at-err _ c.retry.result refl

pub returns-in_default-kind-clause-stops : goal.returns-in_default-kind-clause-stops
returns-in_default-kind-clause-stops g c = so-at-err _ c.go_on_with.result refl
