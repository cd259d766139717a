use Rattle.std.proofs.Common.{◌≡◌, ◌-◌, ℕ, suc, length, get_or, ap, sym, ◌∙◌, subst, arith}
use Rattle.pi_terms.specs.Tree.{subterms}
use Rattle.pi_constraints.specs.Store.{IsTerm}
use Rattle.pi_constraints.specs.declared.store.Ref.{Ref}
use Rattle.pi_store_blocks.specs.Built.{Putting}
use Rattle.pi_store_blocks.proofs.BuiltLemmas.{NodeAt, node_at, none_put, one_put, one_left, all_put}
use Rattle.pi_store.specs.Holding.{seen}
use Rattle.pi_store.proofs.store.RawStore.put_term.Goals as goal

pub loop-i-init : goal.loop-i-init
loop-i-init c = none_put (seen c.args.self.now) c.args.t.now c.cells-i.result c.new-built.result.items c.cells-i.ensures c.new-built.ensures.items

pub loop-i-preserved : goal.loop-i-preserved
loop-i-preserved c =
    let v = seen c.args.self.now in
    let w = seen c.loop-i.self in
    let t = c.args.t.now in
    let i = c.loop-i.i - 1 in
    let next : c.loop-i.i ≡ suc i = omega arith in
    let put : Putting v w t (suc i) c.loop-i.built.items = subst (λ (k : ℕ). Putting v w t k c.loop-i.built.items) next c.loop-i.invariant in
    let at : NodeAt (subterms t) i c.head_at.result = node_at (subterms t) i c.head_at.result c.head_at.ensures in
    one_put v w (seen c.put_node.new.self) t i c.head_at.result c.loop-i.built.items c.put_node.new.built.items c.push.new.self.items c.in_ok-made.made put at c.put_node.ensures.stays c.in_ok-made.ensures.ok c.in_ok-push.ensures.items

pub index-requires : goal.index-requires
index-requires c =
    let none : c.loop-i.i ≡ 0 = omega arith in
    let one : length c.loop-i.built.items ≡ 1 = one_left (seen c.args.self.now) (seen c.loop-i.self) c.args.t.now c.loop-i.i c.loop-i.built.items none c.loop-i.invariant in
    omega (arith, c.loop-i.built.ok.0)

pub returns-clause-ok : goal.returns-clause-ok
returns-clause-ok c = λ below.
    let w = seen c.loop-i.self in
    let none : c.loop-i.i ≡ 0 = omega arith in
    let one = all_put (seen c.args.self.now) w c.args.t.now c.loop-i.i c.loop-i.built.items none c.loop-i.invariant below in
    let same : c.index.result.now ≡ one.0 = c.index.ensures ∙ ap (λ rs. get_or rs 0 c.index.result.now) one.1 in
    subst (λ (q : Ref). IsTerm w q c.args.t.now) (sym same) one.2
