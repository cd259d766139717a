use Rattle.pi_rewrite.proofs.ClauseLemmas.{some-node, truth-shown}
use Rattle.pi_rewrite.proofs.goals.is_truth.Goals as goal

pub node-requires : goal.node-requires
node-requires c = some-node c.args.goal.now

pub returns : goal.returns
returns c = truth-shown c.args.goal.now c.node.result c.is_true_node.result c.node.ensures.shows c.is_true_node.ensures
