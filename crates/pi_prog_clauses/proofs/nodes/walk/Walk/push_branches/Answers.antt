use Rattle.std.proofs.Common.{◌≡◌, ◌-◌, ◌∷◌, drop, length, ap, ◌∙◌, arith}
use Rattle.pi_prog_clauses.specs.Walk.{nodes_ahead}
use Rattle.pi_prog_clauses.proofs.nodes.BelowLemmas.{branches_none, branches-more}
use Rattle.pi_prog_clauses.proofs.nodes.WalkLemmas.{front, past}
use Rattle.pi_prog_clauses.proofs.nodes.walk.Walk.push_branches.Goals as goal

pub loop-i-init : goal.loop-i-init
loop-i-init c = branches_none _ c.args.branches.now (length c.args.branches.now) _ (past (length c.args.branches.now) c.args.branches.now (omega arith))

pub loop-i-preserved : goal.loop-i-preserved
loop-i-preserved c =
    let x = c.index-branches-i.result in
    let e : drop (c.loop-i.i - 1) c.args.branches.now ≡ x ∷ drop c.loop-i.i c.args.branches.now =
    front c.args.branches.now (c.loop-i.i - 1) x (omega arith) c.index-branches-i.is ∙ ap (λ k. x ∷ drop k c.args.branches.now) (omega arith) in
    branches-more _ _ c.args.branches.now (c.loop-i.i - 1) c.loop-i.i x (nodes_ahead c.args.self.now) _ _ _ e c.body.ensures c.loop-i.invariant c.in_ok-push.ensures c.in_ok-push-2.ensures
