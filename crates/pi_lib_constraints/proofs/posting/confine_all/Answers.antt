use Rattle.std.proofs.Common.{arith, ◌∙◌}
use Rattle.pi_unify.proofs.KeepsLemmas.{keeps_none, keeps_then}
use Rattle.pi_lib_constraints.proofs.PostLemmas.{all-none, all-more, all-all, still-state, places-made}
use Rattle.pi_lib_constraints.proofs.posting.confine_all.Goals as goal

pub loop-k-init : goal.loop-k-init
loop-k-init g c = let v = g.S.StateStore.seen c.args.s.now in record { keeps = keeps_none v; state = λ is e may. all-none v.now.state }

pub loop-k-preserved : goal.loop-k-preserved
loop-k-preserved g c =
    let v = g.S.StateStore.seen c.args.s.now in
    let w = g.S.StateStore.seen c.loop-k.s in
    let x = g.S.StateStore.seen c.confine_items.new.s in
    let cs = c.args.constraints.now in
    let k = c.loop-k.k in
    let one = c.index-constraints-k.result in
    let items = c.deref.result.now in
    let are = c.deref.ensures.value ∙ c.in_ok-items.ensures in
    record {
      keeps = keeps_then v w x c.loop-k.invariant.keeps c.in_ok-confine_items.ensures.keeps;
      state = λ is e may.
          let had = c.loop-k.invariant.state is e may in
          all-more cs k one items v.now.state w.now.state x.now.state c.loop-k-test.true c.index-constraints-k.is are had
          (c.in_ok-confine_items.ensures.ok (still-state _ v.now.state w.now.state is had) e (places-made cs k one items v.now.state w.now.state c.loop-k-test.true c.index-constraints-k.is are had may));
    }

pub returns-clause-ok : goal.returns-clause-ok
returns-clause-ok g c = λ is e may.
    all-all c.args.constraints.now c.loop-k.k (g.S.StateStore.seen c.args.s.now).now.state (g.S.StateStore.seen c.loop-k.s).now.state (omega (arith, c.loop-k-test.false, c.loop-k.auto.k-end)) (c.loop-k.invariant.state is e may)
