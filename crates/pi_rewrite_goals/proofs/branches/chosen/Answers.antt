-- One more condition stands in front.
use Rattle.pi_rewrite_goals.specs.Joined.{chosen}
use Rattle.pi_rewrite_goals.proofs.BranchLemmas.{chosen-popped}
use Rattle.pi_rewrite_goals.proofs.branches.chosen.Goals as goal

pub loop-condition-preserved : goal.loop-condition-preserved
loop-condition-preserved c =
    chosen-popped c.loop-condition.conditions.items c.pop.new.self.items c.in-Some.condition c.loop-condition.other.items c.in_ok-other.other.items (chosen c.args.conditions.items c.args.other.items) c.in_ok-otherwise.otherwise c.in_ok-choice.choice c.in-Some.ensures.items c.in_ok-otherwise.ensures c.in_ok-choice.ensures.ok c.in_ok-other.ensures c.loop-condition.invariant
