use Rattle.std.proofs.Common.{◌≡◌, ◌∙◌, subst, sym, ap, refl, Some}
use Rattle.std.specs.Prelude.{slice_get, option_copied}
use Rattle.std.proofs.lemmas.Result.{IfOk-weaker}
use Rattle.pi_engine_arenas.specs.Arenas.{view_of}
use Rattle.pi_engine_stands.specs.Stands.{World, world}
use Rattle.pi_engine_stands.specs.Goes.{TicksUnless, counting}
use Rattle.pi_engine_stands.proofs.GoalsGo.{call-there, call-found, no-predicate, call-counted, call-refused}
use Rattle.pi_engine_stands.proofs.StopsGo.{so-at-err, call-stops}
use Rattle.pi_engine_stands.proofs.RulesTried.{IsFound, found-there}
use Rattle.pi_engine_steps.proofs.goals.run_call.Goals as goal

pub returns-in_default-clause-goes : goal.returns-in_default-clause-goes
returns-in_default-clause-goes g c = λ node l is_code v fits names d is.
    let run = c.args.run.now in
    let w : World _ = world l (g.S.StateStore.seen run.store) g.S.StateStore.order (view_of run.arenas) in
    no-predicate w c.args.predicate (call-found w c.args.point c.args.step d c.args.predicate c.args.operands is node)
    (ap (λ r. slice_get r.predicates.items c.args.predicate) is_code ∙ sym c.predicate_there.ensures ∙ ap option_copied c.in_default.is)

pub returns-then-not-tick_call-clause-goes : goal.returns-then-not-tick_call-clause-goes
returns-then-not-tick_call-clause-goes g c = λ node l is_code v fits names d is.
    let run = c.args.run.now in
    let w : World _ = world l (g.S.StateStore.seen run.store) g.S.StateStore.order (view_of run.arenas) in
    let called = c.in-Some.called.now in
    let at : slice_get c.args.code.now.predicates.items c.args.predicate ≡ Some called = sym c.predicate_there.ensures ∙ ap option_copied c.in-Some.is in
    let known : IsFound w c.args.predicate called = found-there w c.args.predicate called (ap (λ r. slice_get r.predicates.items c.args.predicate) is_code ∙ at) in
    call-refused w c.args.point c.args.step c.tick_call.new.now d v names called.is_quiet c.args.mode c.args.budget.now c.tick_call.new.budget run.now fits is
    (call-there w c.args.point c.args.step d v names c.args.predicate c.args.operands called is node known)
    (subst (TicksUnless called.is_quiet (counting c.args.mode c.args.budget.now c.tick_call.new.budget) run.now c.tick_call.new.now) c.if-not-tick_call.true c.tick_call.ensures.ticks)

pub returns-clause-goes : goal.returns-clause-goes
returns-clause-goes g c = IfOk-weaker c.call.result _ _ (λ _ so node l is_code v fits names d is.
    let run = c.args.run.now in
    let end = c.call.new.run in
    let w : World _ = world l (g.S.StateStore.seen run.store) g.S.StateStore.order (view_of run.arenas) in
    let after : World _ = world l (g.S.StateStore.seen end.store) g.S.StateStore.order (view_of end.arenas) in
    let called = c.in-Some.called.now in
    let at : slice_get c.args.code.now.predicates.items c.args.predicate ≡ Some called = sym c.predicate_there.ensures ∙ ap option_copied c.in-Some.is in
    let known : IsFound w c.args.predicate called = found-there w c.args.predicate called (ap (λ r. slice_get r.predicates.items c.args.predicate) is_code ∙ at) in
    call-counted w after c.args.point c.args.step end.now d v names called.is_quiet c.args.mode c.args.budget.now c.tick_call.new.budget run.now c.tick_call.new.now refl is
    (call-there w c.args.point c.args.step d v names c.args.predicate c.args.operands called is node known)
    (so node l is_code at)
    (subst (TicksUnless called.is_quiet (counting c.args.mode c.args.budget.now c.tick_call.new.budget) run.now c.tick_call.new.now) c.if-not-tick_call.false c.tick_call.ensures.ticks)) c.call.ensures

pub returns-clause-stops : goal.returns-clause-stops
returns-clause-stops g c = so-at-err _ c.call.result (λ node l is_code v fits names d is.
    let run = c.args.run.now in
    let w : World _ = world l (g.S.StateStore.seen run.store) g.S.StateStore.order (view_of run.arenas) in
    let called = c.in-Some.called.now in
    let at : slice_get c.args.code.now.predicates.items c.args.predicate ≡ Some called = sym c.predicate_there.ensures ∙ ap option_copied c.in-Some.is in
    let known : IsFound w c.args.predicate called = found-there w c.args.predicate called (ap (λ r. slice_get r.predicates.items c.args.predicate) is_code ∙ at) in
    call-stops w c.args.point c.args.step d v names called.is_quiet c.args.mode c.args.budget.now c.tick_call.new.budget run.now c.tick_call.new.now is
    (call-there w c.args.point c.args.step d v names c.args.predicate c.args.operands called is node known)
    (subst (TicksUnless called.is_quiet (counting c.args.mode c.args.budget.now c.tick_call.new.budget) run.now c.tick_call.new.now) c.if-not-tick_call.false c.tick_call.ensures.ticks))
