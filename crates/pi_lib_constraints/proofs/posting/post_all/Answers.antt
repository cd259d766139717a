use Rattle.std.proofs.Common.{arith}
use Rattle.pi_unify.proofs.KeepsLemmas.{keeps_none, keeps_then}
use Rattle.pi_lib_constraints.proofs.PostLemmas.{posted-none, may-post, posted-more, posted-all}
use Rattle.pi_lib_constraints.proofs.posting.post_all.Goals as goal

pub loop-k-init : goal.loop-k-init
loop-k-init g c = let v = g.S.StateStore.seen c.args.s.now in record { keeps = keeps_none v; state = λ may. posted-none v.now.state }

pub loop-k-preserved : goal.loop-k-preserved
loop-k-preserved g c =
    let v = g.S.StateStore.seen c.args.s.now in
    let w = g.S.StateStore.seen c.loop-k.s in
    let x = g.S.StateStore.seen c.post.new.self in
    let cs = c.args.constraints.now in
    let one = c.index-constraints-k.result in
    record {
      keeps = keeps_then v w x c.loop-k.invariant.keeps c.in_ok-post.ensures.keeps;
      state = λ may.
          let had = c.loop-k.invariant.state may in
          let posts = may-post cs c.loop-k.k one v.now.state w.now.state c.loop-k-test.true c.index-constraints-k.is had may in
          posted-more cs c.loop-k.k one v.now.state w.now.state x.now.state c.loop-k-test.true c.index-constraints-k.is had (c.in_ok-post.ensures.ok posts).state;
    }

pub returns-clause-ok : goal.returns-clause-ok
returns-clause-ok g c = λ may.
    posted-all c.args.constraints.now c.loop-k.k (g.S.StateStore.seen c.args.s.now).now.state (g.S.StateStore.seen c.loop-k.s).now.state (omega (arith, c.loop-k-test.false, c.loop-k.auto.k-end)) (c.loop-k.invariant.state may)
