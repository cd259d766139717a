-- One more branch stands in front.
use Rattle.std.proofs.Common.{[]}
use Rattle.pi_rewrite_goals.specs.Joined.{closed}
use Rattle.pi_rewrite_goals.proofs.BranchLemmas.{closed-popped}
use Rattle.pi_rewrite_goals.proofs.branches.closed.Goals as goal

pub loop-branch-preserved : goal.loop-branch-preserved
loop-branch-preserved c =
    closed-popped c.loop-branch.branches.items c.pop.new.self.items c.in-Some.branch c.loop-branch.behind.items c.in_ok-behind.behind.items (closed c.args.branches.items []) c.in-Some.ensures.items c.in_ok-behind.ensures c.loop-branch.invariant
