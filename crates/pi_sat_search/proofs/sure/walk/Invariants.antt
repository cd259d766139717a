use Rattle.pi_sat_search.specs.Nodes.{IsNode, widths}
use Rattle.pi_sat_search.proofs.sure.walk.Given as goal

abbrev pub invariant-loop-pick : goal.invariant-loop-pick
invariant-loop-pick l = IsNode l.given.domains l.entries l.node.present.items l.node.lemma.items

abbrev pub decreases-loop-pick : goal.decreases-loop-pick
decreases-loop-pick l = widths l.node.present.items
