use Rattle.std.proofs.Common.{◌∙◌, refl, sym, ap, subst}
use Rattle.pi_engine_arenas.specs.declared.run.End.{End}
use Rattle.pi_engine_arenas.specs.declared.run.Now.{Now}
use Rattle.pi_engine_arenas.specs.Arenas.{view_of}
use Rattle.pi_engine_stands.specs.Stands.{world}
use Rattle.pi_engine.proofs.SpendLemmas.{spends-none, spends-then}
use Rattle.pi_engine.specs.Happens.{IsBuiltSoFar}
use Rattle.pi_engine.specs.Turns.{StepIs, RunsAfter}
use Rattle.pi_engine.proofs.NextTurns.{running-of, lasts-memory, built-ended, no-turns, one-turn, end-comes, memory-comes, answer-comes, told-comes}
use Rattle.pi_engine.proofs.turns.next_happening.Goals as goal

pub loop-turn-init : goal.loop-turn-init
loop-turn-init g c =
    let run = c.args.run.now in
    record {
      counts = spends-none c.args.mode c.args.budget.now;
      turns = λ l is_code are v fits d is. no-turns v c.args.names.now c.args.mode c.args.budget.now (world l (g.S.StateStore.seen run.store) g.S.StateStore.order (view_of run.arenas)) run.now d is;
      still = λ e ended. (refl, refl, refl);
    }

pub loop-turn-preserved : goal.loop-turn-preserved
loop-turn-preserved g c =
    let first = c.args.run.now in
    let here = c.loop-turn.run in
    let next = c.step.new.run in
    let before = c.loop-turn.invariant in
    record {
      counts = spends-then c.args.mode c.args.budget.now c.loop-turn.budget c.step.new.budget before.counts c.step.ensures.spends;
      turns = λ l is_code are v fits d is.
          (let it = before.turns l is_code are v fits d is in
          one-turn v c.args.names.now c.args.mode c.args.budget.now c.loop-turn.budget c.step.new.budget
          (world l (g.S.StateStore.seen first.store) g.S.StateStore.order (view_of first.arenas)) (world l (g.S.StateStore.seen here.store) g.S.StateStore.order (view_of here.arenas))
          (world l (g.S.StateStore.seen next.store) g.S.StateStore.order (view_of next.arenas)) first.now here.now next.now d refl refl before.counts c.step.ensures.spends (running-of here.now c.in_default.not-Ended) is it
          (λ at. subst (StepIs v c.args.names.now c.args.mode c.loop-turn.budget c.step.new.budget (world l (g.S.StateStore.seen next.store) g.S.StateStore.order (view_of next.arenas)) next.now it.goes.comes) c.in-More.is
          (c.in-Ok-step.ensures.is (running-of here.now c.in_default.not-Ended) l is_code are v fits it.goes.comes at)));
      still = λ e ended. absurd (c.in_default.not-Ended e (ap (λ r. r.now) (before.still e ended).0 ∙ ended));
    }

pub returns-in-Ended-clause-comes : goal.returns-in-Ended-clause-comes
returns-in-Ended-clause-comes g c = λ l is_code are v fits d is.
    let first = c.args.run.now in
    let here = c.loop-turn.run in
    end-comes v c.args.names.now c.args.mode c.args.budget.now c.loop-turn.budget (world l (g.S.StateStore.seen here.store) g.S.StateStore.order (view_of here.arenas)) first.now here.now c.in-Ended.end c.in-Ok.happening d
    c.in-Ended.is c.in-Ok.ensures.ok (c.loop-turn.invariant.turns l is_code are v fits d is)

pub returns-in-Ended-clause-built : goal.returns-in-Ended-clause-built
returns-in-Ended-clause-built g c = built-ended c.in-Ended.end c.in-Ok.happening c.in-Ok.ensures.ok

pub returns-in-Answered : goal.returns-in-Answered
returns-in-Answered g c =
    let first = c.args.run.now in
    let here = c.loop-turn.run in
    let next = c.step.new.run in
    let before = c.loop-turn.invariant in
    record {
      spends = spends-then c.args.mode c.args.budget.now c.loop-turn.budget c.step.new.budget before.counts c.step.ensures.spends;
      comes = λ l is_code are v fits d is.
          (let it = before.turns l is_code are v fits d is in
          answer-comes v c.args.names.now c.args.mode c.args.budget.now c.loop-turn.budget c.step.new.budget
          (world l (g.S.StateStore.seen first.store) g.S.StateStore.order (view_of first.arenas)) (world l (g.S.StateStore.seen here.store) g.S.StateStore.order (view_of here.arenas))
          (world l (g.S.StateStore.seen next.store) g.S.StateStore.order (view_of next.arenas)) first.now here.now next.now d c.in-Answered.answer c.into_inner.result c.into_inner.ensures refl refl before.counts c.step.ensures.spends (running-of here.now c.in_default.not-Ended) is it
          (λ at. subst (StepIs v c.args.names.now c.args.mode c.loop-turn.budget c.step.new.budget (world l (g.S.StateStore.seen next.store) g.S.StateStore.order (view_of next.arenas)) next.now it.goes.comes) c.in-Answered.is
          (c.in-Ok-step.ensures.is (running-of here.now c.in_default.not-Ended) l is_code are v fits it.goes.comes at)));
      repeats = λ e ended. absurd (c.in_default.not-Ended e (ap (λ r. r.now) (before.still e ended).0 ∙ ended));
      built = tt;
      lasts = subst (λ o. RunsAfter o next.now) c.in-Answered.is c.in-Ok-step.ensures.answered;
    }

pub returns-in-Told : goal.returns-in-Told
returns-in-Told g c =
    let first = c.args.run.now in
    let here = c.loop-turn.run in
    let next = c.step.new.run in
    let before = c.loop-turn.invariant in
    record {
      spends = spends-then c.args.mode c.args.budget.now c.loop-turn.budget c.step.new.budget before.counts c.step.ensures.spends;
      comes = λ l is_code are v fits d is.
          (let it = before.turns l is_code are v fits d is in
          told-comes v c.args.names.now c.args.mode c.args.budget.now c.loop-turn.budget c.step.new.budget
          (world l (g.S.StateStore.seen first.store) g.S.StateStore.order (view_of first.arenas)) (world l (g.S.StateStore.seen here.store) g.S.StateStore.order (view_of here.arenas))
          (world l (g.S.StateStore.seen next.store) g.S.StateStore.order (view_of next.arenas)) first.now here.now next.now d c.in-Told.told c.text_of.result c.text_of.ensures refl refl before.counts c.step.ensures.spends (running-of here.now c.in_default.not-Ended) is it
          (λ at. subst (StepIs v c.args.names.now c.args.mode c.loop-turn.budget c.step.new.budget (world l (g.S.StateStore.seen next.store) g.S.StateStore.order (view_of next.arenas)) next.now it.goes.comes) c.in-Told.is
          (c.in-Ok-step.ensures.is (running-of here.now c.in_default.not-Ended) l is_code are v fits it.goes.comes at)));
      repeats = λ e ended. absurd (c.in_default.not-Ended e (ap (λ r. r.now) (before.still e ended).0 ∙ ended));
      built = tt;
      lasts = subst (λ o. RunsAfter o next.now) c.in-Told.is c.in-Ok-step.ensures.answered;
    }

pub returns-in_default-step : goal.returns-in_default-step
returns-in_default-step g c =
    let first = c.args.run.now in
    let here = c.loop-turn.run in
    let before = c.loop-turn.invariant in
    let wanted = c.memory_wanted-in_default-step in
    let ended = ap (λ r. r.now) wanted.ensures.stopped in
    record {
      spends = spends-then c.args.mode c.args.budget.now c.loop-turn.budget c.step.new.budget before.counts c.step.ensures.spends;
      comes = λ l is_code are v fits d is.
          (let it = before.turns l is_code are v fits d is in
          let w = world l (g.S.StateStore.seen here.store) g.S.StateStore.order (view_of here.arenas) in
          memory-comes v c.args.names.now c.args.mode c.args.budget.now c.step.new.budget w (world l (g.S.StateStore.seen wanted.new.run.store) g.S.StateStore.order (view_of wanted.new.run.arenas)) first.now (Now.Ended End.Memory)
          wanted.new.run.now wanted.result d refl ended wanted.ensures.result
          (one-turn v c.args.names.now c.args.mode c.args.budget.now c.loop-turn.budget c.step.new.budget (world l (g.S.StateStore.seen first.store) g.S.StateStore.order (view_of first.arenas)) w w first.now here.now (Now.Ended End.Memory) d
          refl refl before.counts c.step.ensures.spends (running-of here.now c.in_default.not-Ended) is it (c.in_default-step.ensures.stops (running-of here.now c.in_default.not-Ended) l is_code v fits it.goes.comes)));
      repeats = λ e at. absurd (c.in_default.not-Ended e (ap (λ r. r.now) (before.still e at).0 ∙ at));
      built = subst IsBuiltSoFar (sym wanted.ensures.result) tt;
      lasts = lasts-memory wanted.new.run.now wanted.result ended wanted.ensures.result;
    }

pub returns-clause-comes : goal.returns-clause-comes
returns-clause-comes g c = λ l is_code are v fits d is.
    let here = c.loop-turn.run in
    let wanted = c.memory_wanted-2 in
    memory-comes v c.args.names.now c.args.mode c.args.budget.now c.loop-turn.budget (world l (g.S.StateStore.seen here.store) g.S.StateStore.order (view_of here.arenas))
    (world l (g.S.StateStore.seen wanted.new.run.store) g.S.StateStore.order (view_of wanted.new.run.arenas)) c.args.run.now.now here.now wanted.new.run.now wanted.result d refl (ap (λ r. r.now) wanted.ensures.stopped) wanted.ensures.result
    (c.loop-turn.invariant.turns l is_code are v fits d is)
