use Rattle.std.proofs.Common.{◌≡◌, ◌-◌, ℕ, suc, [], ◌∷◌, length, get_or, ap, sym, ◌∙◌, subst, arith, ◌≤◌}
use Rattle.pi_terms.specs.Tree.{subterms}
use Rattle.pi_terms.specs.Copy.{renamed}
use Rattle.pi_constraints.specs.Store.{IsTerm}
use Rattle.pi_constraints.specs.declared.store.Ref.{Ref}
use Rattle.pi_unify.specs.Copying.{renumbered}
use Rattle.pi_unify.proofs.BuildLemmas.{Putting, NodeAt, node_at, none_put, ready, one_put, all_put}
use Rattle.pi_unify.proofs.KeepsLemmas.{stays_then}
use Rattle.pi_unify.proofs.BindLemmas.{if_err}
use Rattle.pi_constraints.specs.State.{State, next}
use Rattle.pi_unify.proofs.placing.put_nodes.Goals as goal

pub loop-i-init : goal.loop-i-init
loop-i-init g c = none_put (g.S.StateStore.seen c.args.s.now) c.args.numbers.now c.args.t.now c.cells-i.result c.new-built.result.items c.cells-i.ensures c.new-built.ensures.items

pub put_node-requires-clause-ready : goal.put_node-requires-clause-ready
put_node-requires-clause-ready g c =
    let v = g.S.StateStore.seen c.args.s.now in
    let w = g.S.StateStore.seen c.loop-i.s in
    let ns = c.args.numbers.now in
    let t = c.args.t.now in
    let i = c.loop-i.i - 1 in
    let next : c.loop-i.i ≡ suc i = omega arith in
    let put : Putting v w ns t (suc i) c.loop-i.built.items = subst (λ (k : ℕ). Putting v w ns t k c.loop-i.built.items) next c.loop-i.invariant in
    let at : NodeAt (subterms t) i c.head_at.result = node_at (subterms t) i c.head_at.result c.head_at.ensures in
    ready v w ns t i c.head_at.result c.loop-i.built.items c.requires.known put at

pub loop-i-preserved : goal.loop-i-preserved
loop-i-preserved g c =
    let v = g.S.StateStore.seen c.args.s.now in
    let w = g.S.StateStore.seen c.loop-i.s in
    let x = g.S.StateStore.seen c.put_node.new.s in
    let ns = c.args.numbers.now in
    let t = c.args.t.now in
    let i = c.loop-i.i - 1 in
    let next : c.loop-i.i ≡ suc i = omega arith in
    let put : Putting v w ns t (suc i) c.loop-i.built.items = subst (λ (k : ℕ). Putting v w ns t k c.loop-i.built.items) next c.loop-i.invariant in
    let at : NodeAt (subterms t) i c.head_at.result = node_at (subterms t) i c.head_at.result c.head_at.ensures in
    one_put v w x ns t i c.head_at.result c.loop-i.built.items c.put_node.new.built.items c.push.new.self.items c.in_ok-made.made put at c.put_node.ensures.stays c.in_ok-made.ensures.ok c.in_ok-push.ensures.items

pub index-requires : goal.index-requires
index-requires g c =
    let v = g.S.StateStore.seen c.args.s.now in
    let w = g.S.StateStore.seen c.loop-i.s in
    let none : c.loop-i.i ≡ 0 = omega arith in
    let one = all_put v w c.args.numbers.now c.args.t.now c.loop-i.i c.loop-i.built.items none c.loop-i.invariant in
    let list : c.loop-i.built.items ≡ one.0 ∷ [] = one.1 in
    omega (arith, ap length list, c.loop-i.built.ok.0)

pub returns-clause-ok : goal.returns-clause-ok
returns-clause-ok g c =
    let v = g.S.StateStore.seen c.args.s.now in
    let w = g.S.StateStore.seen c.loop-i.s in
    let t = c.args.t.now in
    let none : c.loop-i.i ≡ 0 = omega arith in
    let one = all_put v w c.args.numbers.now t c.loop-i.i c.loop-i.built.items none c.loop-i.invariant in
    let same : c.index.result.now ≡ one.0 = c.index.ensures ∙ ap (λ rs. get_or rs 0 c.index.result.now) one.1 in
    subst (λ (q : Ref). IsTerm w q (renamed (renumbered v.now.state c.args.numbers.now) t)) (sym same) one.2

pub returns-in_err-made-clause-stays : goal.returns-in_err-made-clause-stays
returns-in_err-made-clause-stays g c =
    let v = g.S.StateStore.seen c.args.s.now in
    stays_then v (g.S.StateStore.seen c.loop-i.s) (g.S.StateStore.seen c.put_node.new.s) v.now.state c.loop-i.invariant.stays c.put_node.ensures.stays

pub returns-in_err-made-clause-ok : goal.returns-in_err-made-clause-ok
returns-in_err-made-clause-ok g c = if_err c.from_residual.result _ c.from_residual.ensures.0

pub returns-in_err-push-clause-stays : goal.returns-in_err-push-clause-stays
returns-in_err-push-clause-stays g c =
    let v = g.S.StateStore.seen c.args.s.now in
    stays_then v (g.S.StateStore.seen c.loop-i.s) (g.S.StateStore.seen c.put_node.new.s) v.now.state c.loop-i.invariant.stays c.put_node.ensures.stays

pub returns-in_err-push-clause-ok : goal.returns-in_err-push-clause-ok
returns-in_err-push-clause-ok g c = if_err c.from_residual-in_err-push.result _ c.from_residual-in_err-push.ensures.0

pub returns-clause-stays : goal.returns-clause-stays
returns-clause-stays g c = c.loop-i.invariant.stays

pub put_node-requires-clause-made : goal.put_node-requires-clause-made
put_node-requires-clause-made g c = subst (λ (s : State). length c.args.numbers.now ≤ next s) (sym c.loop-i.invariant.stays.state) c.requires.made
