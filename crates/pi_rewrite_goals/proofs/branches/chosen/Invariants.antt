use Rattle.std.proofs.Common.{◌≡◌, vec_len}
use Rattle.pi_rewrite_goals.specs.Joined.{chosen}
use Rattle.pi_rewrite_goals.proofs.branches.chosen.Given as goal

-- the conditions that are left stand in front of what is done where they don't hold
abbrev pub invariant-loop-condition : goal.invariant-loop-condition
invariant-loop-condition l = chosen l.conditions.items l.other.items ≡ chosen l.fn.conditions.items l.fn.other.items

abbrev pub decreases-loop-condition : goal.decreases-loop-condition
decreases-loop-condition l = vec_len l.conditions
