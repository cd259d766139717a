use Rattle.std.proofs.Common.{sym, ◌∙◌, ap, subst, List, ◌++◌, ◌∷◌, []}
use Rattle.std.proofs.lemmas.Option.{slice_get-get_or}
use Rattle.pi_constraints.specs.Store.{AreWatches}
use Rattle.pi_constraints.specs.declared.event.Watch.{Watch}
use Rattle.pi_constraints.specs.declared.event.Activation.{Activation}
use Rattle.pi_constraints.specs.State.{bindings}
use Rattle.pi_agent.proofs.WakeLemmas.{found-turn, passed-turn, none-turn}
use Rattle.pi_agent.proofs.waking.wake.Goals as goal

pub returns-then-answers : goal.returns-then-answers
returns-then-answers g c = λ a acyclic at.
    let v = g.S.StateStore.seen c.args.s.now in
    let are : AreWatches v c.as_slice-watches.result.now a.watches = subst (λ (rs : List Watch). AreWatches v rs a.watches) (sym c.as_slice-watches.ensures) (c.in_ok-watches.ensures a at) in
    found-turn v (bindings v.now.state) c.args.event.now c.args.agent c.loop-i.i c.as_slice-watches.result.now a.watches _ c.args.woken.now c.push.new.self _ are (slice_get-get_or c.as_slice-watches.result.now c.loop-i.i _ c.loop-i-test.true)
    (λ w h. sym c.if-answers.true ∙ c.answers.ensures w acyclic h) (c.loop-i.invariant.1 a acyclic at) c.in_ok-value.ensures (c.in_ok-push.ensures.ok ∙ ap (λ (xs : List Activation). xs ++ record { agent = c.args.agent; watch = c.loop-i.i; value = c.in_ok-value.value } ∷ []) c.loop-i.invariant.0)

pub loop-i-preserved : goal.loop-i-preserved
loop-i-preserved g c = (
  c.loop-i.invariant.0,
  λ a acyclic at.
      let v = g.S.StateStore.seen c.args.s.now in
      let are : AreWatches v c.as_slice-watches.result.now a.watches = subst (λ (rs : List Watch). AreWatches v rs a.watches) (sym c.as_slice-watches.ensures) (c.in_ok-watches.ensures a at) in
      passed-turn v (bindings v.now.state) c.args.event.now c.args.agent c.loop-i.i c.as_slice-watches.result.now a.watches _ are (slice_get-get_or c.as_slice-watches.result.now c.loop-i.i _ c.loop-i-test.true)
      (λ w h. sym c.if-answers.false ∙ c.answers.ensures w acyclic h) (c.loop-i.invariant.1 a acyclic at),
)

pub returns : goal.returns
returns g c = λ a acyclic at.
    let v = g.S.StateStore.seen c.args.s.now in
    let are : AreWatches v c.as_slice-watches.result.now a.watches = subst (λ (rs : List Watch). AreWatches v rs a.watches) (sym c.as_slice-watches.ensures) (c.in_ok-watches.ensures a at) in
    c.loop-i.invariant.0 ∙ none-turn v (bindings v.now.state) c.args.event.now c.args.agent c.loop-i.i c.as_slice-watches.result.now a.watches c.args.woken.now are c.loop-i-test.false (c.loop-i.invariant.1 a acyclic at)
