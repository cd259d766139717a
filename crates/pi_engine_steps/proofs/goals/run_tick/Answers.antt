use Rattle.std.proofs.Common.{subst, true, false}
use Rattle.pi_engine_arenas.specs.Arenas.{view_of}
use Rattle.pi_engine_stands.specs.Stands.{world}
use Rattle.pi_engine_stands.specs.Goes.{Ticks}
use Rattle.pi_engine_stands.proofs.GoalsGo.{tick-passes, tick-refused}
use Rattle.pi_engine_steps.proofs.goals.run_tick.Goals as goal

pub returns-then-tick-clause-goes : goal.returns-then-tick-clause-goes
returns-then-tick-clause-goes g c = λ node l.
    let run = c.args.run.now in
    let told : Ticks c.args.mode c.args.budget.now c.tick.new.budget run.now c.tick.new.now true = subst (Ticks c.args.mode c.args.budget.now c.tick.new.budget run.now c.tick.new.now) c.if-tick.true c.tick.ensures.ticks in
    tick-passes (world l (g.S.StateStore.seen run.store) g.S.StateStore.order (view_of run.arenas)) c.args.point c.behind.result c.args.step c.args.mode c.args.budget.now c.tick.new.budget node told.0 c.behind.ensures

pub returns-else-tick-clause-goes : goal.returns-else-tick-clause-goes
returns-else-tick-clause-goes g c = λ node l.
    let run = c.args.run.now in
    let told : Ticks c.args.mode c.args.budget.now c.tick.new.budget run.now c.tick.new.now false = subst (Ticks c.args.mode c.args.budget.now c.tick.new.budget run.now c.tick.new.now) c.if-tick.false c.tick.ensures.ticks in
    tick-refused (world l (g.S.StateStore.seen run.store) g.S.StateStore.order (view_of run.arenas)) c.args.point c.args.step c.args.mode c.args.budget.now c.tick.new.budget c.tick.new.now node told.0 told.1 told.2
