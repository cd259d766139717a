use Rattle.std.proofs.Common.{sym, ◌∙◌, arith}
use Rattle.pi_terms.specs.Tree.{subterms}
use Rattle.pi_unify.proofs.BuildLemmas.{NodeAt, node_at, more_variables, same_variables, all_variables, no_variables}
use Rattle.pi_unify.proofs.placing.numbers_of.Goals as goal
use Rattle.pi_unify.proofs.placing.numbers_of.Goals.{in-Var+in_ok-meet, in_default}

pub loop-i-init : goal.loop-i-init
loop-i-init c = c.new-numbers.ensures ∙ sym no_variables

pub loop-i-preserved : goal.loop-i-preserved
loop-i-preserved c =
    let us = subterms c.args.t.now in
    let i = c.loop-i.i in
    let head = c.head_at.result in
    let at : NodeAt us i head = node_at us i head c.head_at.ensures in
    elim c.match-head_at.branch [
      | in-Var+in_ok-meet w ↦ w.numbers-is ∙ more_variables us i head c.loop-i.numbers w.meet.new.self w.in-Var.n at w.in-Var.is c.loop-i.invariant w.in_ok-meet.ensures.ok
      | in_default w ↦ w.numbers-is ∙ same_variables us i head c.loop-i.numbers at w.in_default.not-Var c.loop-i.invariant
    ]

pub returns : goal.returns
returns c = all_variables c.args.t.now c.loop-i.i c.loop-i.numbers (omega (arith, c.cells-i-end.ensures)) c.loop-i.invariant
