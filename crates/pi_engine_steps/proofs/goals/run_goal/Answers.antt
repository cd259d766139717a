use Rattle.std.proofs.Common.{◌≡◌, ◌∙◌, refl, sym, ap, subst, Some}
use Rattle.std.specs.Prelude.{slice_get, option_copied}
use Rattle.std.proofs.lemmas.Result.{IfOk-weaker, IfErr-weaker}
use Rattle.pi_engine_arenas.specs.Arenas.{view_of}
use Rattle.pi_engine_stands.specs.Goes.{IsSilent}
use Rattle.pi_engine_stands.specs.Stands.{World, world}
use Rattle.pi_engine_stands.proofs.GoalsGo.{runs-silent}
use Rattle.pi_engine_stands.proofs.PointsDone.{at-step, no-step, other-node}
use Rattle.pi_engine_stands.proofs.StopsGo.{so-at-err, point-stops}
use Rattle.pi_engine_steps.proofs.goals.run_goal.Goals as goal

pub returns-in_default-clause-goes : goal.returns-in_default-clause-goes
returns-in_default-clause-goes g c = λ l is_code v fits names d some stands good rules.
    let run = c.args.run.now in
    let w : World _ = world l (g.S.StateStore.seen run.store) g.S.StateStore.order (view_of run.arenas) in
    no-step w c.args.point c.args.code.now d is_code (sym c.step_there.ensures ∙ ap option_copied c.in_default.is) some stands

pub returns-in-Tick-clause-goes : goal.returns-in-Tick-clause-goes
returns-in-Tick-clause-goes g c = λ l is_code v fits names d some stands good rules.
    let run = c.args.run.now in
    let w : World _ = world l (g.S.StateStore.seen run.store) g.S.StateStore.order (view_of run.arenas) in
    let s = c.in-Some.step.now in
    let found : slice_get c.args.code.now.steps.items c.args.point.place ≡ Some s = sym c.step_there.ensures ∙ ap option_copied c.in-Some.is in
    c.run_tick.ensures.goes c.in-Tick.is l v fits names d (at-step w c.args.point c.args.code.now s d is_code found some stands good rules)

pub returns-in-Call-clause-goes : goal.returns-in-Call-clause-goes
returns-in-Call-clause-goes g c = IfOk-weaker c.run_call.result _ _ (λ _ so l is_code v fits names d some stands good rules.
    let run = c.args.run.now in
    let w : World _ = world l (g.S.StateStore.seen run.store) g.S.StateStore.order (view_of run.arenas) in
    let s = c.in-Some.step.now in
    let found : slice_get c.args.code.now.steps.items c.args.point.place ≡ Some s = sym c.step_there.ensures ∙ ap option_copied c.in-Some.is in
    so c.in-Call.is l is_code v fits names d (at-step w c.args.point c.args.code.now s d is_code found some stands good rules)) c.run_call.ensures.goes

pub returns-in-True-clause-goes : goal.returns-in-True-clause-goes
returns-in-True-clause-goes g c = λ l is_code v fits names d some stands good rules.
    let run = c.args.run.now in
    let end = c.pass.new.run in
    let w : World _ = world l (g.S.StateStore.seen run.store) g.S.StateStore.order (view_of run.arenas) in
    let after : World _ = world l (g.S.StateStore.seen end.store) g.S.StateStore.order (view_of end.arenas) in
    let s = c.in-Some.step.now in
    let found : slice_get c.args.code.now.steps.items c.args.point.place ≡ Some s = sym c.step_there.ensures ∙ ap option_copied c.in-Some.is in
    let silent : IsSilent s.node = subst IsSilent (sym c.in-True.is) tt in
    runs-silent w after c.args.point s end.now c.args.mode c.args.budget.now refl silent (λ view fit. c.pass.ensures c.in-True.is l view) v fits names d (at-step w c.args.point c.args.code.now s d is_code found some stands good rules)

pub returns-in-Fail-clause-goes : goal.returns-in-Fail-clause-goes
returns-in-Fail-clause-goes g c = λ l is_code v fits names d some stands good rules.
    let run = c.args.run.now in
    let end = c.fail_here.new.run in
    let w : World _ = world l (g.S.StateStore.seen run.store) g.S.StateStore.order (view_of run.arenas) in
    let after : World _ = world l (g.S.StateStore.seen end.store) g.S.StateStore.order (view_of end.arenas) in
    let s = c.in-Some.step.now in
    let found : slice_get c.args.code.now.steps.items c.args.point.place ≡ Some s = sym c.step_there.ensures ∙ ap option_copied c.in-Some.is in
    let silent : IsSilent s.node = subst IsSilent (sym c.in-Fail.is) tt in
    runs-silent w after c.args.point s end.now c.args.mode c.args.budget.now refl silent (λ view fit. c.fail_here.ensures c.in-Fail.is l view) v fits names d (at-step w c.args.point c.args.code.now s d is_code found some stands good rules)

pub returns-in-Seq-clause-goes : goal.returns-in-Seq-clause-goes
returns-in-Seq-clause-goes g c = IfOk-weaker c.enter_sequence.result _ _ (λ _ so l is_code v fits names d some stands good rules.
    let run = c.args.run.now in
    let end = c.enter_sequence.new.run in
    let w : World _ = world l (g.S.StateStore.seen run.store) g.S.StateStore.order (view_of run.arenas) in
    let after : World _ = world l (g.S.StateStore.seen end.store) g.S.StateStore.order (view_of end.arenas) in
    let s = c.in-Some.step.now in
    let found : slice_get c.args.code.now.steps.items c.args.point.place ≡ Some s = sym c.step_there.ensures ∙ ap option_copied c.in-Some.is in
    let silent : IsSilent s.node = subst IsSilent (sym c.in-Seq.is) tt in
    runs-silent w after c.args.point s end.now c.args.mode c.args.budget.now refl silent (λ view fit. so c.in-Seq.is l view) v fits names d (at-step w c.args.point c.args.code.now s d is_code found some stands good rules)) c.enter_sequence.ensures

pub returns-in_default-node-clause-goes : goal.returns-in_default-node-clause-goes
returns-in_default-node-clause-goes g c = IfOk-weaker c.run_other.result _ _ (λ _ so l is_code v fits names d some stands good rules.
    let run = c.args.run.now in
    let w : World _ = world l (g.S.StateStore.seen run.store) g.S.StateStore.order (view_of run.arenas) in
    let s = c.in-Some.step.now in
    let found : slice_get c.args.code.now.steps.items c.args.point.place ≡ Some s = sym c.step_there.ensures ∙ ap option_copied c.in-Some.is in
    so (other-node s.node c.in_default-node.not-True c.in_default-node.not-Fail c.in_default-node.not-Tick c.in_default-node.not-Seq c.in_default-node.not-Call) l is_code v fits names d
    (at-step w c.args.point c.args.code.now s d is_code found some stands good rules)) c.run_other.ensures.goes

pub returns-in-Call-clause-stops : goal.returns-in-Call-clause-stops
returns-in-Call-clause-stops g c = IfErr-weaker c.run_call.result _ _ (λ _ so l is_code v fits names d some stands good rules.
    let run = c.args.run.now in
    let w : World _ = world l (g.S.StateStore.seen run.store) g.S.StateStore.order (view_of run.arenas) in
    let s = c.in-Some.step.now in
    let found : slice_get c.args.code.now.steps.items c.args.point.place ≡ Some s = sym c.step_there.ensures ∙ ap option_copied c.in-Some.is in
    so c.in-Call.is l is_code v fits names d (at-step w c.args.point c.args.code.now s d is_code found some stands good rules)) c.run_call.ensures.stops

pub returns-in-Seq-clause-stops : goal.returns-in-Seq-clause-stops
returns-in-Seq-clause-stops g c = so-at-err _ c.enter_sequence.result (λ l is_code.
    let run = c.args.run.now in
    point-stops (world l (g.S.StateStore.seen run.store) g.S.StateStore.order (view_of run.arenas)) c.args.point c.args.mode c.args.budget.now)

pub returns-in_default-node-clause-stops : goal.returns-in_default-node-clause-stops
returns-in_default-node-clause-stops g c = IfErr-weaker c.run_other.result _ _ (λ _ so l is_code v fits names d some stands good rules.
    let run = c.args.run.now in
    let w : World _ = world l (g.S.StateStore.seen run.store) g.S.StateStore.order (view_of run.arenas) in
    let s = c.in-Some.step.now in
    let found : slice_get c.args.code.now.steps.items c.args.point.place ≡ Some s = sym c.step_there.ensures ∙ ap option_copied c.in-Some.is in
    so l is_code v fits names d (at-step w c.args.point c.args.code.now s d is_code found some stands good rules)) c.run_other.ensures.stops
