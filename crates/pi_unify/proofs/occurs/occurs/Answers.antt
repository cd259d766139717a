use Rattle.std.proofs.Common.{refl, sym, ◌∙◌, subst}
use Rattle.pi_unify.proofs.OccursLemmas.{looking_first, looking_next}
use Rattle.pi_unify.proofs.BindLemmas.{if_err}
use Rattle.pi_unify.specs.Ahead.{term_and}
use Rattle.pi_unify.specs.Answers.{LooksFor}
use Rattle.pi_unify.specs.declared.occurs.Look.{Look}
use Rattle.pi_unify.proofs.occurs.occurs.Goals as goal

pub loop-init : goal.loop-init
loop-init g c = λ is ref. looking_first (g.S.StateStore.seen c.args.s.now) c.args.v c.args.r _ (sym c.new-ahead.ensures.items) ref

pub returns-then-is_apart : goal.returns-then-is_apart
returns-then-is_apart g c = λ is ref. sym (c.if-is_apart.ensures refl is ref)

pub returns-in_err-look_for : goal.returns-in_err-look_for
returns-in_err-look_for g c = if_err c.from_residual.result _ c.from_residual.ensures.0

pub returns-in-Found : goal.returns-in-Found
returns-in-Found g c = λ is ref.
    let v = g.S.StateStore.seen c.args.s.now in
    let so = c.loop.invariant is ref in
    sym (subst (λ (look : Look). LooksFor v c.args.v (term_and v c.loop.at c.loop.ahead.items) look c.look_for.new.ahead.items) c.in-Found.is (c.in_ok-look_for.ensures is so.term so.args)) ∙ so.same

pub returns-in-Done : goal.returns-in-Done
returns-in-Done g c = λ is ref.
    let v = g.S.StateStore.seen c.args.s.now in
    let so = c.loop.invariant is ref in
    sym (subst (λ (look : Look). LooksFor v c.args.v (term_and v c.loop.at c.loop.ahead.items) look c.look_for.new.ahead.items) c.in-Done.is (c.in_ok-look_for.ensures is so.term so.args)) ∙ so.same

pub loop-preserved : goal.loop-preserved
loop-preserved g c = λ is ref.
    let v = g.S.StateStore.seen c.args.s.now in
    let so = c.loop.invariant is ref in
    let gs = c.look_for.new.ahead.items in
    looking_next v c.args.v c.args.r c.loop.at c.in-Next.next c.loop.ahead.items gs so (subst (λ (look : Look). LooksFor v c.args.v (term_and v c.loop.at c.loop.ahead.items) look gs) c.in-Next.is (c.in_ok-look_for.ensures is so.term so.args))
