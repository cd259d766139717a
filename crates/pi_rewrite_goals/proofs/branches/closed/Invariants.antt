use Rattle.std.proofs.Common.{◌≡◌, [], reverse, vec_len}
use Rattle.pi_rewrite_goals.specs.Joined.{closed}
use Rattle.pi_rewrite_goals.proofs.branches.closed.Given as goal

-- the branches that are left stand in front of what is behind them
abbrev pub invariant-loop-branch : goal.invariant-loop-branch
invariant-loop-branch l = closed l.branches.items (reverse l.behind.items) ≡ closed l.fn.branches.items []

abbrev pub decreases-loop-branch : goal.decreases-loop-branch
decreases-loop-branch l = vec_len l.branches
