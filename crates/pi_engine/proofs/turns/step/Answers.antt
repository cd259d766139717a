use Rattle.std.proofs.Common.{◌<◌, refl, sym, subst, arith}
use Rattle.pi_engine_arenas.specs.declared.run.Now.{Now}
use Rattle.pi_engine_arenas.specs.declared.run.End.{End}
use Rattle.pi_engine_arenas.specs.Arenas.{view_of}
use Rattle.pi_engine_stands.specs.Goes.{IsAt, IsIn, counting}
use Rattle.pi_engine_stands.specs.Stands.{World, Stands, world}
use Rattle.pi_engine.specs.Turns.{StepIs, StepStops, IsRunning, RunsAfter}
use Rattle.pi_engine_stands.proofs.StopsGo.{so-at-err}
use Rattle.pi_engine.proofs.TurnsGo.{stops-there, ticks-is, told-is, fails-is, raises-is}
use Rattle.pi_engine.proofs.turns.step.Goals as goal

pub returns-then-point-eq0-clause-is : goal.returns-then-point-eq0-clause-is
returns-then-point-eq0-clause-is g c = λ running l is_code are v fits d is.
    let run = c.args.run.now in
    let w : World _ = world l (g.S.StateStore.seen run.store) g.S.StateStore.order (view_of run.arenas) in
    let stands : Stands w (Now.Going c.in-Going.at) d = subst (λ n. IsAt v c.args.names.now w n d) c.in-Going.is is.is in
    c.in_ok-outcome-in-Going.ensures.is l is_code are v d (record { none = c.if-point-eq0.true; stands = stands; good = is.good; rules = is.rules }) c.args.mode c.args.budget.now

pub returns-in_ok-run_goal-in-Going-clause-is : goal.returns-in_ok-run_goal-in-Going-clause-is
returns-in_ok-run_goal-in-Going-clause-is g c = λ running l is_code are v fits d is.
    let run = c.args.run.now in
    let end = c.run_goal.new.run in
    let w : World _ = world l (g.S.StateStore.seen run.store) g.S.StateStore.order (view_of run.arenas) in
    let after : World _ = world l (g.S.StateStore.seen end.store) g.S.StateStore.order (view_of end.arenas) in
    let stands : Stands w (Now.Going c.in-Going.at) d = subst (λ n. IsAt v c.args.names.now w n d) c.in-Going.is is.is in
    let some : 0 < c.in-Going.at.count = omega (arith, c.if-point-eq0.false) in
    ticks-is v c.args.names.now c.args.mode c.args.budget.now c.run_goal.new.budget after end.now d c.run_goal.ensures.counts (c.in_ok-run_goal-in-Going.ensures.goes l is_code v fits c.args.names.now d some stands is.good is.rules)

pub returns-in_ok-fail-in-Failing-clause-is : goal.returns-in_ok-fail-in-Failing-clause-is
returns-in_ok-fail-in-Failing-clause-is g c = λ running l is_code are v fits d is.
    let run = c.args.run.now in
    let end = c.fail.new.run in
    let w : World _ = world l (g.S.StateStore.seen run.store) g.S.StateStore.order (view_of run.arenas) in
    let after : World _ = world l (g.S.StateStore.seen end.store) g.S.StateStore.order (view_of end.arenas) in
    fails-is w after v c.args.names.now c.args.mode c.args.budget.now c.fail.new.budget end.now d refl fits c.fail.ensures.counts (subst (λ n. IsIn v c.args.names.now w n d) c.in-Failing.is is) (c.in_ok-fail-in-Failing.ensures.fails l is_code)

pub returns-in_ok-unwind-in-Raising-clause-is : goal.returns-in_ok-unwind-in-Raising-clause-is
returns-in_ok-unwind-in-Raising-clause-is g c = λ running l is_code are v fits d is.
    let run = c.args.run.now in
    let end = c.unwind.new.run in
    let w : World _ = world l (g.S.StateStore.seen run.store) g.S.StateStore.order (view_of run.arenas) in
    let after : World _ = world l (g.S.StateStore.seen end.store) g.S.StateStore.order (view_of end.arenas) in
    raises-is w after v c.args.names.now c.args.mode c.args.budget.now run.now end.now c.in-Raising.field-0 d refl c.in-Raising.is is (c.in_ok-unwind-in-Raising.ensures l is_code)

pub returns-in-Telling-clause-answered : goal.returns-in-Telling-clause-answered
returns-in-Telling-clause-answered g c =
    let told = c.tell.ensures.tells c.in-Telling.field-0 c.in-Telling.is in
    subst (λ o. RunsAfter o c.tell.new.run.now) (sym told.0) (subst IsRunning (sym told.1) tt)

pub returns-in-Telling-clause-is : goal.returns-in-Telling-clause-is
returns-in-Telling-clause-is g c = λ running l is_code are v fits d is.
    let run = c.args.run.now in
    let end = c.tell.new.run in
    let b = c.args.budget.now in
    let order = g.S.StateStore.order in
    let w : World _ = world l (g.S.StateStore.seen run.store) order (view_of run.arenas) in
    let told = c.tell.ensures.tells c.in-Telling.field-0 c.in-Telling.is in
    subst (λ s. StepIs v c.args.names.now c.args.mode b b (world l (g.S.StateStore.seen s) order (view_of end.arenas)) end.now d c.tell.result) (sym c.tell.ensures.store)
    (subst (λ a. StepIs v c.args.names.now c.args.mode b b (world l (g.S.StateStore.seen run.store) order (view_of a)) end.now d c.tell.result) (sym c.tell.ensures.arenas)
    (subst (λ n. StepIs v c.args.names.now c.args.mode b b w n d c.tell.result) (sym told.1)
    (subst (StepIs v c.args.names.now c.args.mode b b w (Now.Going c.in-Telling.field-0.value.point) d) (sym told.0)
    (told-is w v c.args.names.now c.args.mode b c.in-Telling.field-0 d (subst (λ n. IsIn v c.args.names.now w n d) c.in-Telling.is is)))))

pub returns-in-Ended-clause-is : goal.returns-in-Ended-clause-is
returns-in-Ended-clause-is g c = λ running l is_code are v fits d is. absurd (subst IsRunning c.in-Ended.is running)

pub returns-in_err-outcome-in-Going-clause-stops : goal.returns-in_err-outcome-in-Going-clause-stops
returns-in_err-outcome-in-Going-clause-stops g c = so-at-err _ c.from_residual.result (λ running l is_code v fits d is.
    let run = c.args.run.now in
    stops-there v c.args.names.now c.args.mode c.args.budget.now (world l (g.S.StateStore.seen run.store) g.S.StateStore.order (view_of run.arenas)) d is.good)

pub returns-in_err-fail-in-Failing-clause-stops : goal.returns-in_err-fail-in-Failing-clause-stops
returns-in_err-fail-in-Failing-clause-stops g c = so-at-err _ c.from_residual-in_err-fail-in-Failing.result (λ running l is_code v fits d is.
    let run = c.args.run.now in
    let w : World _ = world l (g.S.StateStore.seen run.store) g.S.StateStore.order (view_of run.arenas) in
    subst (λ b. StepStops v c.args.names.now (counting c.args.mode c.args.budget.now b) w d) (sym c.in_err-fail-in-Failing.ensures.stops) (stops-there v c.args.names.now c.args.mode c.args.budget.now w d is.good))

pub returns-in_err-unwind-in-Raising-clause-stops : goal.returns-in_err-unwind-in-Raising-clause-stops
returns-in_err-unwind-in-Raising-clause-stops g c = so-at-err _ c.from_residual-in_err-unwind-in-Raising.result (λ running l is_code v fits d is.
    let run = c.args.run.now in
    stops-there v c.args.names.now c.args.mode c.args.budget.now (world l (g.S.StateStore.seen run.store) g.S.StateStore.order (view_of run.arenas)) d is.good)

pub returns-in_err-run_goal-in-Going-clause-stops : goal.returns-in_err-run_goal-in-Going-clause-stops
returns-in_err-run_goal-in-Going-clause-stops g c = so-at-err _ c.from_residual-in_err-run_goal-in-Going.result (λ running l is_code v fits d is.
    let run = c.args.run.now in
    let w : World _ = world l (g.S.StateStore.seen run.store) g.S.StateStore.order (view_of run.arenas) in
    let stands : Stands w (Now.Going c.in-Going.at) d = subst (λ n. IsAt v c.args.names.now w n d) c.in-Going.is is.is in
    let some : 0 < c.in-Going.at.count = omega (arith, c.if-point-eq0.false) in
    ticks-is v c.args.names.now c.args.mode c.args.budget.now c.run_goal.new.budget w (Now.Ended End.Memory) d c.run_goal.ensures.counts
    (c.in_err-run_goal-in-Going.ensures.stops l is_code v fits c.args.names.now d some stands is.good is.rules))

pub returns-in_ok-settle_due-in-Settling-clause-is : goal.returns-in_ok-settle_due-in-Settling-clause-is
returns-in_ok-settle_due-in-Settling-clause-is g c = λ running l is_code are v fits d is.
    let run = c.args.run.now in
    let w : World _ = world l (g.S.StateStore.seen run.store) g.S.StateStore.order (view_of run.arenas) in
    let stands : Stands w (Now.Settling c.in-Settling.field-0) d = subst (λ n. IsAt v c.args.names.now w n d) c.in-Settling.is is.is in
    c.in_ok-settle_due-in-Settling.ensures.settles c.in-Settling.field-0 c.in-Settling.is l v c.args.names.now c.args.mode d stands is.good is.rules

pub returns-in_err-settle_due-in-Settling-clause-stops : goal.returns-in_err-settle_due-in-Settling-clause-stops
returns-in_err-settle_due-in-Settling-clause-stops g c = so-at-err _ c.from_residual-in_err-settle_due-in-Settling.result (λ running l is_code v fits d is.
    c.in_err-settle_due-in-Settling.ensures.stops l v c.args.names.now c.args.mode d is.good)

pub returns-in_ok-settle_due-in-Settling-clause-spends : goal.returns-in_ok-settle_due-in-Settling-clause-spends
returns-in_ok-settle_due-in-Settling-clause-spends g c = c.settle_due.ensures.spends c.args.mode

pub returns-in_err-settle_due-in-Settling-clause-spends : goal.returns-in_err-settle_due-in-Settling-clause-spends
returns-in_err-settle_due-in-Settling-clause-spends g c = c.settle_due.ensures.spends c.args.mode
