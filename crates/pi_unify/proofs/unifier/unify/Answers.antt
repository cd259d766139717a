use Rattle.std.proofs.Common.{sym, subst}
use Rattle.pi_unify.proofs.StepLemmas.{keeps-refl, unifying_first, unifying_next, unifying_done, are_terms}
use Rattle.pi_unify.proofs.KeepsLemmas.{keeps_then}
use Rattle.pi_unify.proofs.BindLemmas.{if_err}
use Rattle.pi_unify.specs.Ahead.{pair_and}
use Rattle.pi_unify.specs.Answers.{Steps}
use Rattle.pi_unify.specs.declared.unifier.Step.{Step}
use Rattle.pi_unify.proofs.unifier.unify.Goals as goal

pub loop-init : goal.loop-init
loop-init g c =
    let v = g.S.StateStore.seen c.args.s.now in
    record { keeps = keeps-refl v; so_far = unifying_first v c.args.a c.args.b _ (sym c.new-ahead.ensures.items) }

pub returns-in_err-one-clause-keeps : goal.returns-in_err-one-clause-keeps
returns-in_err-one-clause-keeps g c = keeps_then (g.S.StateStore.seen c.args.s.now) (g.S.StateStore.seen c.loop.s) (g.S.StateStore.seen c.take_pair.new.s) c.loop.invariant.keeps c.take_pair.ensures.keeps

pub returns-in_err-one-clause-unifies : goal.returns-in_err-one-clause-unifies
returns-in_err-one-clause-unifies g c = if_err c.from_residual.result _ c.from_residual.ensures.0

pub returns-in_err-one-clause-state : goal.returns-in_err-one-clause-state
returns-in_err-one-clause-state g c = if_err c.from_residual.result _ c.from_residual.ensures.0

pub returns-in-Done-clause-keeps : goal.returns-in-Done-clause-keeps
returns-in-Done-clause-keeps g c = keeps_then (g.S.StateStore.seen c.args.s.now) (g.S.StateStore.seen c.loop.s) (g.S.StateStore.seen c.take_pair.new.s) c.loop.invariant.keeps c.take_pair.ensures.keeps

pub returns-in-Done-clause-unifies : goal.returns-in-Done-clause-unifies
returns-in-Done-clause-unifies g c = λ t u is left right left_below right_below.
    let v = g.S.StateStore.seen c.args.s.now in
    let w = g.S.StateStore.seen c.loop.s in
    let x = g.S.StateStore.seen c.take_pair.new.s in
    let a = c.args.a in
    let b = c.args.b in
    let fs = c.loop.ahead.items in
    let gs = c.take_pair.new.ahead.items in
    let so = c.loop.invariant.so_far (are_terms v a b t u is left right left_below right_below) in
    unifying_done v w x a b c.loop.left c.loop.right fs gs t u c.in-Done.one left right so (subst (λ (step : Step). Steps w (pair_and w c.loop.left c.loop.right fs) step x gs) c.in-Done.is (c.in_ok-one.ensures.steps so.state so.pair))

pub returns-in-Done-clause-state : goal.returns-in-Done-clause-state
returns-in-Done-clause-state g c = λ t u is left right left_below right_below.
    let so = c.loop.invariant.so_far (are_terms (g.S.StateStore.seen c.args.s.now) c.args.a c.args.b t u is left right left_below right_below) in
    c.in_ok-one.ensures.state so.state so.pair

pub loop-preserved : goal.loop-preserved
loop-preserved g c =
    let v = g.S.StateStore.seen c.args.s.now in
    let w = g.S.StateStore.seen c.loop.s in
    let x = g.S.StateStore.seen c.take_pair.new.s in
    let fs = c.loop.ahead.items in
    let gs = c.take_pair.new.ahead.items in
    record {
      keeps = keeps_then v w x c.loop.invariant.keeps c.take_pair.ensures.keeps;
      so_far = λ terms.
          let so = c.loop.invariant.so_far terms in
          unifying_next v w x c.args.a c.args.b c.loop.left c.loop.right c.in-Next.x c.in-Next.y fs gs so (subst (λ (step : Step). Steps w (pair_and w c.loop.left c.loop.right fs) step x gs) c.in-Next.is (c.in_ok-one.ensures.steps so.state so.pair));
    }

pub returns-clause-keeps : goal.returns-clause-keeps
returns-clause-keeps g c = c.loop.invariant.keeps
