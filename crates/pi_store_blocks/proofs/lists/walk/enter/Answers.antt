use Rattle.pi_store_blocks.proofs.WalkLemmas.{number_found, ends_found}
use Rattle.pi_store_blocks.proofs.lists.walk.enter.Goals as goal

pub returns-clause-found : goal.returns-clause-found
returns-clause-found c = number_found c.args.words.now.region c.args.end _ _ c.at-node.result c.if-end-eq0.false c.at-node.ensures c.in_ok-push.ensures.items

pub returns-clause-ends : goal.returns-clause-ends
returns-clause-ends c = ends_found c.args.words.now.region c.args.end _ _ _ c.at-node.result c.if-end-eq0.false c.at-node.ensures c.in_ok-push-2.ensures.items c.in_ok-push-3.ensures.items
