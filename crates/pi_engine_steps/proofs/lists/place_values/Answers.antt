use Rattle.std.proofs.Common.{◌≡◌, ◌+◌, length, sym, subst, arith}
use Rattle.pi_engine_stands.specs.Lists.{PlacesValues}
use Rattle.pi_engine_stands.specs.Stands.{values_between}
use Rattle.pi_engine_stands.proofs.ListsStand.{places-none, places-more, there-is}
use Rattle.pi_engine_steps.proofs.lists.place_values.Goals as goal
use Rattle.pi_engine_steps.proofs.lists.place_values.Goals.{in-Some+in_ok-term+in_ok-push, in_default}

pub loop-i-init : goal.loop-i-init
loop-i-init g c = places-none (g.S.StateStore.seen c.args.store.now) c.args.values.now c.args.first c.clear.new.self.items c.clear.ensures.items

pub loop-i-preserved : goal.loop-i-preserved
loop-i-preserved g c =
    let v = g.S.StateStore.seen c.args.store.now in
    let w = g.S.StateStore.seen c.loop-i.store in
    let values = c.args.values.now in
    let first = c.args.first in
    let i = c.loop-i.i in
    elim c.match-value_at.branch [
      | in-Some+in_ok-term+in_ok-push q ↦
          subst (λ s. PlacesValues v (g.S.StateStore.seen s) (values_between values first (i + 1)) c.match-value_at.terms.items) (sym q.store-is)
          (subst (λ ts. PlacesValues v (g.S.StateStore.seen q.place.new.s) (values_between values first (i + 1)) ts.items) (sym q.terms-is)
          (places-more v w (g.S.StateStore.seen q.place.new.s) values first i q.in-Some.value.now c.loop-i.terms.items q.push.new.self.items q.in_ok-term.term c.loop-i.auto.i q.in-Some.ensures.some c.loop-i.invariant q.in_ok-term.ensures.ok q.in_ok-push.ensures.items))
      | in_default q ↦ absurd (there-is values i c.loop-i-test.true q.in_default.ensures.none)
    ]

pub returns : goal.returns
returns g c = λ order.
    let all : c.loop-i.i ≡ length c.args.values.now = omega (arith, c.loop-i-test.false, c.loop-i.auto.i-end order) in
    subst (λ n. PlacesValues (g.S.StateStore.seen c.args.store.now) (g.S.StateStore.seen c.loop-i.store) (values_between c.args.values.now c.args.first n) c.loop-i.terms.items)
    all c.loop-i.invariant
