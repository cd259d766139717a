use Rattle.std.proofs.Common.{refl}
use Rattle.std.proofs.lemmas.Result.{IfOk-weaker, IfErr-weaker}
use Rattle.pi_engine_arenas.specs.Arenas.{view_of}
use Rattle.pi_engine_stands.specs.Stands.{World, world}
use Rattle.pi_engine_stands.specs.Goes.{IsSilent}
use Rattle.pi_engine_stands.proofs.GoalsGo.{runs-silent}
use Rattle.pi_engine_stands.proofs.PointsDone.{silent-node, value-goes}
use Rattle.pi_engine_stands.proofs.TermRuns.{term-goes}
use Rattle.pi_engine_stands.proofs.StopsGo.{so-at-err, goal-stops}
use Rattle.pi_engine_steps.proofs.goals.run_other.Goals as goal

pub returns-in-Apply-clause-goes : goal.returns-in-Apply-clause-goes
returns-in-Apply-clause-goes g c = IfOk-weaker c.run_apply.result _ _ (λ _ so other l is_code. so c.in-Apply.is l is_code) c.run_apply.ensures.goes

pub returns-in-Value-clause-goes : goal.returns-in-Value-clause-goes
returns-in-Value-clause-goes g c = IfOk-weaker c.give_value.result _ _ (λ _ so other l is_code v fits names d at.
    let run = c.args.run.now in
    let end = c.give_value.new.run in
    let w : World _ = world l (g.S.StateStore.seen run.store) g.S.StateStore.order (view_of run.arenas) in
    let after : World _ = world l (g.S.StateStore.seen end.store) g.S.StateStore.order (view_of end.arenas) in
    value-goes w after c.args.point c.args.step.now c.args.mode c.args.budget.now v names d end.now refl at (so c.in-Value.is l is_code v names d at)) c.give_value.ensures

pub returns-in-CallTerm-clause-goes : goal.returns-in-CallTerm-clause-goes
returns-in-CallTerm-clause-goes g c = IfOk-weaker c.call_term.result _ _ (λ _ so other l is_code.
    let run = c.args.run.now in
    let end = c.call_term.new.run in
    let w : World _ = world l (g.S.StateStore.seen run.store) g.S.StateStore.order (view_of run.arenas) in
    let after : World _ = world l (g.S.StateStore.seen end.store) g.S.StateStore.order (view_of end.arenas) in
    term-goes w after c.args.point c.args.step.now c.in-CallTerm.operands c.in-CallTerm.count end.now c.args.mode c.args.budget.now refl c.in-CallTerm.is (so c.in-CallTerm.is l is_code)) c.call_term.ensures

pub returns-in_default-clause-goes : goal.returns-in_default-clause-goes
returns-in_default-clause-goes g c = IfOk-weaker c.run_silent.result _ _ (λ _ so other l is_code v fits names d at.
    let run = c.args.run.now in
    let end = c.run_silent.new.run in
    let w : World _ = world l (g.S.StateStore.seen run.store) g.S.StateStore.order (view_of run.arenas) in
    let after : World _ = world l (g.S.StateStore.seen end.store) g.S.StateStore.order (view_of end.arenas) in
    let s = c.args.step.now in
    let silent : IsSilent s.node = silent-node s.node other c.in_default.not-Apply c.in_default.not-Value c.in_default.not-CallTerm in
    runs-silent w after c.args.point s end.now c.args.mode c.args.budget.now refl silent (so l is_code other silent) v fits names d at) c.run_silent.ensures

pub returns-in-Apply-clause-stops : goal.returns-in-Apply-clause-stops
returns-in-Apply-clause-stops g c = IfErr-weaker c.run_apply.result _ _ (λ _ so l is_code. so c.in-Apply.is l is_code) c.run_apply.ensures.stops

pub returns-in-Value-clause-stops : goal.returns-in-Value-clause-stops
returns-in-Value-clause-stops g c = so-at-err _ c.give_value.result (λ l is_code.
    let run = c.args.run.now in
    goal-stops (world l (g.S.StateStore.seen run.store) g.S.StateStore.order (view_of run.arenas)) c.args.point c.args.step.now c.args.mode c.args.budget.now)

pub returns-in-CallTerm-clause-stops : goal.returns-in-CallTerm-clause-stops
returns-in-CallTerm-clause-stops g c = so-at-err _ c.call_term.result (λ l is_code.
    let run = c.args.run.now in
    goal-stops (world l (g.S.StateStore.seen run.store) g.S.StateStore.order (view_of run.arenas)) c.args.point c.args.step.now c.args.mode c.args.budget.now)

pub returns-in_default-clause-stops : goal.returns-in_default-clause-stops
returns-in_default-clause-stops g c = so-at-err _ c.run_silent.result (λ l is_code.
    let run = c.args.run.now in
    goal-stops (world l (g.S.StateStore.seen run.store) g.S.StateStore.order (view_of run.arenas)) c.args.point c.args.step.now c.args.mode c.args.budget.now)
