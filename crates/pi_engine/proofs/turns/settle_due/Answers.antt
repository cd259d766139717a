use Rattle.std.proofs.Common.{◌≡◌, ◌∙◌, sym, ap, subst}
use Rattle.std.specs.Prelude.{Box}
use Rattle.std.specs.Global.{Global}
use Rattle.pi_terms.proofs.OptionLemmas.{none-some, one-some}
use Rattle.pi_constraints.specs.State.{State, IsState}
use Rattle.pi_core.specs.declared.log.Work.{Work}
use Rattle.pi_meaning.specs.declared.happening.Budget.{Budget}
use Rattle.pi_settling.specs.SettlingLaws.{MaySettle}
use Rattle.pi_queue.specs.Ends.{worked}
use Rattle.pi_engine_settle.specs.declared.propagating.Settled.{Settled}
use Rattle.pi_engine_settle.specs.Due.{IsDueFor}
use Rattle.pi_engine_settle.specs.Settles.{ComesTo}
use Rattle.pi_engine_arenas.specs.declared.run.Settling.{Settling}
use Rattle.pi_engine_arenas.specs.Arenas.{view_of}
use Rattle.pi_engine_stands.specs.Stands.{World, world}
use Rattle.pi_engine.specs.declared.turns.Outcome.{Outcome}
use Rattle.pi_engine.specs.Turns.{StepIs, after_settling}
use Rattle.pi_engine_stands.proofs.StandsLemmas.{moved}
use Rattle.pi_engine_stands.proofs.StopsGo.{so-at-err}
use Rattle.pi_engine.proofs.SpendLemmas.{spends-none, with_work, spends-runs}
use Rattle.pi_engine.proofs.DueTurns.{due-is, due-stops}
use Rattle.pi_engine.proofs.turns.settle_due.Goals as goal

pub returns-in_default-clause-spends : goal.returns-in_default-clause-spends
returns-in_default-clause-spends g c = λ mode. spends-none mode c.args.budget.now

pub returns-in_default-clause-settles : goal.returns-in_default-clause-settles
returns-in_default-clause-settles g c = λ it is l. absurd (none-some c.in_default.is (c.into_settling.ensures.settles it (c.replace-now.ensures.value ∙ is)))

pub returns-in_err-settled-clause-spends : goal.returns-in_err-settled-clause-spends
returns-in_err-settled-clause-spends g c = λ mode. spends-runs mode c.args.budget.now c.settle.new.work c.settle.ensures.within

pub returns-in_err-settled-clause-stops : goal.returns-in_err-settled-clause-stops
returns-in_err-settled-clause-stops g c = so-at-err _ c.from_residual.result (λ l v names mode d good.
    let run = c.args.run.now in
    due-stops (world l (g.S.StateStore.seen run.store) g.S.StateStore.order (view_of run.arenas)) v names mode c.args.budget.now c.settle.new.work d good c.settle.ensures.within)

pub returns-clause-spends : goal.returns-clause-spends
returns-clause-spends g c = λ mode. spends-runs mode c.args.budget.now c.settle.new.work c.settle.ensures.within

pub returns-clause-settles : goal.returns-clause-settles
returns-clause-settles g c = λ it is l v names mode d stands good rules.
    let run = c.args.run.now in
    let u = g.S.StateStore.seen c.settle.new.store in
    let w : World _ = world l (g.S.StateStore.seen run.store) g.S.StateStore.order (view_of run.arenas) in
    let same : c.in-Some.settling ≡ it = one-some c.into_settling.result c.in-Some.settling it c.in-Some.is (c.into_settling.ensures.settles it (c.replace-now.ensures.value ∙ is)) in
    let inner : c.into_inner-due.result ≡ it.value = c.into_inner-due.ensures ∙ ap (λ (b : Box Settling Global). b.value) same in
    let b : Budget = c.args.budget.now in
    let work : Work = c.settle.new.work in
    let settled : Settled = c.in_ok-settled.settled in
    let comes : (before : State) → IsDueFor before w.store.now.state it.value.due → IsState w.store.now.state → MaySettle w.store.now.state → ComesTo before w.store.now.state it.value.due (worked b.limit b.work work) u.now.state settled =
    subst (λ (s : Settling). (before : State) → IsDueFor before w.store.now.state s.due → IsState w.store.now.state → MaySettle w.store.now.state → ComesTo before w.store.now.state s.due (worked b.limit b.work work) u.now.state settled) inner
    c.in_ok-settled.ensures.comes in
    subst (λ n. StepIs v names mode b (with_work b work) (moved w u w.arenas) n d Outcome.More) (sym (c.next_now.ensures ∙ ap (λ (s : Settling). after_settling settled s.point) inner))
    (due-is w u it v names mode b work d stands good rules c.settle.ensures.keeps c.settle.ensures.within settled comes)
