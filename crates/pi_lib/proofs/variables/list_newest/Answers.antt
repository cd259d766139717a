use Rattle.std.proofs.Common.{◌≡◌, ◌+◌, ◌-◌, ap, sym, ◌∙◌, arith}
use Rattle.pi_terms.specs.Tree.{var}
use Rattle.pi_constraints.specs.State.{next}
use Rattle.pi_constraints.specs.Store.{IsTerm}
use Rattle.pi_unify.proofs.KeepsLemmas.{stays_then}
use Rattle.pi_lib.proofs.MadeLists.{none_listed, one_listed, all_listed}
use Rattle.pi_lib.proofs.variables.list_newest.Goals as goal

pub loop-k-init : goal.loop-k-init
loop-k-init g c = record {
  stays = c.in_ok-list.ensures.ok.changes;
  list = λ first whole. none_listed (g.S.StateStore.seen c.put_atom.new.self) c.in_ok-list.list first c.in_ok-list.ensures.ok.term;
}

pub loop-k-preserved : goal.loop-k-preserved
loop-k-preserved g c =
    let v = g.S.StateStore.seen c.args.s.now in
    let w = g.S.StateStore.seen c.loop-k.s in
    let x = g.S.StateStore.seen c.put_comp.new.self in
    let k = c.loop-k.k in
    let end = c.vars-end.result in
    let n = c.saturating_sub-in-loop-k.result in
    let place : n ≡ end - k - 1 = omega (arith, c.saturating_sub.ensures, c.saturating_sub-in-loop-k.ensures) in
    let many : next w.now.state ≡ end = ap next c.loop-k.invariant.stays.state ∙ sym c.vars-end.ensures in
    record {
      stays = stays_then v w x v.now.state c.loop-k.invariant.stays c.in_ok-list-2.ensures.stays;
      list = λ first whole.
          let here : first + c.args.count ≡ end = whole ∙ sym c.vars-end.ensures in
          let made : IsTerm w c.var_ref-var.result (var n) = c.var_ref-var.ensures (omega (arith, place, many, here)) in
          one_listed w x c.var_ref-var.result c.loop-k.list c.in_ok-list-2.list n end first c.args.count k here (omega arith) place made (c.loop-k.invariant.list first whole) c.in_ok-list-2.ensures.ok;
    }

pub returns-in_err-list-2-clause-stays : goal.returns-in_err-list-2-clause-stays
returns-in_err-list-2-clause-stays g c =
    let v = g.S.StateStore.seen c.args.s.now in
    stays_then v (g.S.StateStore.seen c.loop-k.s) (g.S.StateStore.seen c.put_comp.new.self) v.now.state c.loop-k.invariant.stays c.in_err-list-2.ensures.stays

pub returns-clause-ok : goal.returns-clause-ok
returns-clause-ok g c = λ first whole.
    all_listed (g.S.StateStore.seen c.loop-k.s) c.loop-k.list first c.args.count c.loop-k.k (omega arith) (c.loop-k.invariant.list first whole)
