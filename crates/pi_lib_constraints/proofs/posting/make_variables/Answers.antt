use Rattle.pi_unify.proofs.KeepsLemmas.{keeps_none, keeps_then}
use Rattle.pi_lib_constraints.proofs.PostLemmas.{news-none, news-more}
use Rattle.pi_lib_constraints.proofs.posting.make_variables.Goals as goal

pub loop-k-init : goal.loop-k-init
loop-k-init g c = let v = g.S.StateStore.seen c.args.s.now in record { keeps = keeps_none v; state = news-none v.now.state }

pub loop-k-preserved : goal.loop-k-preserved
loop-k-preserved g c =
    let v = g.S.StateStore.seen c.args.s.now in
    let w = g.S.StateStore.seen c.loop-k.s in
    let x = g.S.StateStore.seen c.new_var.new.self in
    record {
      keeps = keeps_then v w x c.loop-k.invariant.keeps c.in_ok-new_var.ensures.ok.changes.keeps;
      state = news-more c.loop-k._k v.now.state w.now.state x.now.state c.loop-k.invariant.state c.in_ok-new_var.ensures.ok.changes.state;
    }
