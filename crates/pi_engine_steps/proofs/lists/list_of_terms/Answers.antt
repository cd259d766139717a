use Rattle.std.proofs.Common.{◌≡◌, ◌∙◌, ◌-◌, suc, Some, sym, subst, arith}
use Rattle.std.specs.Prelude.{slice_get}
use Rattle.pi_terms.specs.Tree.{drop_trees}
use Rattle.pi_constraints.specs.Store.{IsTerm}
use Rattle.pi_engine_stands.specs.Lists.{list_of}
use Rattle.pi_engine_stands.proofs.ListsStand.{nothing-behind, list-more, there-is}
use Rattle.pi_engine_steps.proofs.lists.list_of_terms.Goals as goal

pub loop-i-init : goal.loop-i-init
loop-i-init g c = λ ts terms. (
  c.in_ok-list.ensures.ok.changes,
  subst (IsTerm (g.S.StateStore.seen c.put_atom.new.self) c.in_ok-list.list) (sym (nothing-behind (g.S.StateStore.seen c.args.store.now) c.args.terms.now ts terms)) c.in_ok-list.ensures.ok.term,
)

pub loop-i-preserved-in-Some : goal.loop-i-preserved-in-Some
loop-i-preserved-in-Some g c = λ ts terms.
    let v = g.S.StateStore.seen c.args.store.now in
    let w = g.S.StateStore.seen c.loop-i.store in
    let x = g.S.StateStore.seen c.put_comp.new.self in
    let i = c.loop-i.i - 1 in
    let before = c.loop-i.invariant ts terms in
    let up : c.loop-i.i ≡ suc i = omega (arith, c.loop-i-test.true) in
    let here : slice_get c.args.terms.now i ≡ Some c.in-Some.term = sym c.term_at.ensures ∙ c.in-Some.is in
    list-more v w x c.args.terms.now ts i c.in-Some.term c.loop-i.list c.in_ok-list-2.list terms before.0 (subst (λ n. IsTerm w c.loop-i.list (list_of (drop_trees n ts))) up before.1) here c.in_ok-list-2.ensures.stays c.in_ok-list-2.ensures.ok

pub loop-i-preserved : goal.loop-i-preserved
loop-i-preserved g c = λ ts terms. absurd (there-is c.args.terms.now (c.loop-i.i - 1) (omega (arith, c.loop-i-test.true, c.loop-i.auto.i)) (sym c.term_at.ensures ∙ c.in_default.is))

pub returns : goal.returns
returns g c = λ ts terms.
    let w = g.S.StateStore.seen c.loop-i.store in
    let done = c.loop-i.invariant ts terms in
    let none : c.loop-i.i ≡ 0 = omega (arith, c.loop-i-test.false) in
    (done.0, subst (λ n. IsTerm w c.loop-i.list (list_of (drop_trees n ts))) none done.1)
