use Rattle.std.proofs.Common.{◌+◌, sym, subst, arith}
use Rattle.pi_terms.specs.Tree.{subterms}
use Rattle.pi_unify.proofs.BuildLemmas.{NodeAt, node_at}
use Rattle.pi_unify.specs.Domains.{HasMet}
use Rattle.pi_unify.proofs.DomainsLemmas.{before_node, node-met, node-passed, nodes-met}
use Rattle.pi_unify.proofs.domains.meet_all.Goals as goal
use Rattle.pi_unify.proofs.domains.meet_all.Goals.{in-Var+in_ok-meet_one, in_default}

pub loop-i-preserved : goal.loop-i-preserved
loop-i-preserved g c = λ ns has.
    let s = (g.S.StateStore.seen c.args.store.now).now.state in
    let us = subterms c.args.term.now in
    let i = c.loop-i.i in
    let head = c.head_at.result in
    let at : NodeAt us i head = node_at us i head c.head_at.ensures in
    let before : HasMet s (before_node ns us i) c.loop-i.met = c.loop-i.invariant ns has in
    elim c.match-head_at.branch as (λ _. HasMet s (before_node ns us (i + 1)) c.match-head_at.met) [
      | in-Var+in_ok-meet_one w ↦
          subst (λ m. HasMet s (before_node ns us (i + 1)) m) (sym w.met-is)
          (node-met s ns us i w.in-Var.n head w.meet_one.new.met at w.in-Var.is (w.in_ok-meet_one.ensures (before_node ns us i) before))
      | in_default w ↦ subst (λ m. HasMet s (before_node ns us (i + 1)) m) (sym w.met-is) (node-passed s ns us i head c.loop-i.met at w.in_default.not-Var before)
    ]

pub returns : goal.returns
returns g c = λ ns has.
    nodes-met (g.S.StateStore.seen c.args.store.now).now.state ns c.args.term.now c.loop-i.i c.loop-i.met (omega (arith, c.cells-i-end.ensures, c.loop-i-test.false)) (c.loop-i.invariant ns has)
