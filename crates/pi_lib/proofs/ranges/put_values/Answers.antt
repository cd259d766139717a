use Rattle.std.proofs.Common.{◌≡◌, ◌-◌, Some, ap, ◌∙◌, subst, arith, rules, to_z, of_z}
use Rattle.std.specs.Int.{w128}
use Rattle.std.proofs.lemmas.Int.{to_z-of_z}
use Rattle.std.proofs.lemmas.Result.{IfOk-from_err}
use Rattle.pi_terms.specs.Tree.{Tree, int}
use Rattle.pi_constraints.specs.Store.{IsTerm}
use Rattle.pi_unify.proofs.KeepsLemmas.{stays_then}
use Rattle.pi_effects.specs.Items.{list_of}
use Rattle.pi_effects.specs.Ranges.{values_by}
use Rattle.pi_lib.specs.Steps.{value_after}
use Rattle.pi_lib.proofs.RangeLemmas.{none_put, one_put, all_put}
use Rattle.pi_lib.proofs.ranges.put_values.Goals as goal

pub loop-k-init : goal.loop-k-init
loop-k-init g c = record {
  stays = c.in_ok-list.ensures.ok.changes;
  list = none_put (g.S.StateStore.seen c.put_atom.new.self) c.in_ok-list.list _ _ _ (omega arith) c.in_ok-list.ensures.ok.term;
}

pub returns-in_err-value-clause-stays : goal.returns-in_err-value-clause-stays
returns-in_err-value-clause-stays g c =
    let v = g.S.StateStore.seen c.args.s.now in
    stays_then v (g.S.StateStore.seen c.loop-k.s) (g.S.StateStore.seen c.put_int.new.self) v.now.state c.loop-k.invariant.stays c.in_err-value.ensures.err

pub returns-in_err-list-2-clause-stays : goal.returns-in_err-list-2-clause-stays
returns-in_err-list-2-clause-stays g c =
    let v = g.S.StateStore.seen c.args.s.now in
    let x = g.S.StateStore.seen c.put_int.new.self in
    stays_then v x (g.S.StateStore.seen c.put_comp.new.self) v.now.state (stays_then v (g.S.StateStore.seen c.loop-k.s) x v.now.state c.loop-k.invariant.stays c.in_ok-value.ensures.ok.changes) c.in_err-list-2.ensures.stays

pub loop-k-preserved : goal.loop-k-preserved
loop-k-preserved g c =
    let v = g.S.StateStore.seen c.args.s.now in
    let w = g.S.StateStore.seen c.loop-k.s in
    let x = g.S.StateStore.seen c.put_int.new.self in
    let y = g.S.StateStore.seen c.put_comp.new.self in
    let i = c.loop-k.k - 1 in
    let low = to_z w128 (of_z w128 c.args.low) in
    let step = to_z w128 (of_z w128 c.args.step) in
    let value : c.value_after.result ≡ value_after low step i = c.value_after.ensures in
    let same : to_z w128 (of_z w128 c.value_after.result) ≡ c.value_after.result = search rules in
    let term : IsTerm x c.in_ok-value.value (int (value_after low step i)) = c.in_ok-value.ensures.ok.term ∙ ap (λ z. Some (int z)) (same ∙ value) in
    record {
      stays = stays_then v x y v.now.state (stays_then v w x v.now.state c.loop-k.invariant.stays c.in_ok-value.ensures.ok.changes) c.in_ok-list-2.ensures.stays;
      list = one_put w x y c.in_ok-value.value c.loop-k.list c.in_ok-list-2.list low step c.args.count c.loop-k.k i (omega arith) (omega arith) term c.loop-k.invariant.list c.in_ok-value.ensures.ok.changes.keeps c.in_ok-list-2.ensures.ok;
    }

pub returns-in_err-list-clause-stays : goal.returns-in_err-list-clause-stays
returns-in_err-list-clause-stays g c = c.in_err-list.ensures.err

pub returns-in_err-list-clause-ok : goal.returns-in_err-list-clause-ok
returns-in_err-list-clause-ok g c = IfOk-from_err c.from_residual.result _ c.from_residual.ensures.0

pub returns-in_err-value-clause-ok : goal.returns-in_err-value-clause-ok
returns-in_err-value-clause-ok g c = IfOk-from_err c.from_residual-in_err-value.result _ c.from_residual-in_err-value.ensures.0

pub returns-in_err-list-2-clause-ok : goal.returns-in_err-list-2-clause-ok
returns-in_err-list-2-clause-ok g c = IfOk-from_err c.from_residual-in_err-list-2.result _ c.from_residual-in_err-list-2.ensures.0

pub returns-clause-stays : goal.returns-clause-stays
returns-clause-stays g c = c.loop-k.invariant.stays

pub returns-clause-ok : goal.returns-clause-ok
returns-clause-ok g c =
    let w = g.S.StateStore.seen c.loop-k.s in
    let count = c.args.count in
    let low = to_z w128 (of_z w128 c.args.low) in
    let step = to_z w128 (of_z w128 c.args.step) in
    let listed : Tree → Type 0 = IsTerm w c.loop-k.list in
    let bits : list_of (values_by count low step) ≡ list_of (values_by count c.args.low c.args.step) =
    ap (λ a. list_of (values_by count a step)) (to_z-of_z w128 c.args.low c.ranges.low) ∙ ap (λ a. list_of (values_by count c.args.low a)) (to_z-of_z w128 c.args.step c.ranges.step) in
    subst listed bits (all_put w c.loop-k.list low step count c.loop-k.k (omega arith) c.loop-k.invariant.list)
