-- One more part.
use Rattle.std.proofs.Common.{map}
use Rattle.pi_core.specs.CoreTree.{pred_tree}
use Rattle.pi_rewrite_sites.specs.OwnNames.{own_name}
use Rattle.pi_rewrite.proofs.GroupLemmas.{preds-more, helpers-more, preds-end, helpers-end}
use Rattle.pi_rewrite.proofs.preds.lower_parts.Goals as goal

pub loop-part-preserved : goal.loop-part-preserved
loop-part-preserved c = (
  preds-more (own_name c.args.naming.now.prefix) c.args.parts.now c.loop-part.part-index c.part-item.result (map pred_tree c.args.preds.now.items) (map pred_tree c.loop-part.preds.items) (map pred_tree c.lower_part.new.preds.items) c.args.before
      c.loop-part.count c.in_ok-count.count c.loop-part-test.true c.part-item.is c.in_ok-count.ensures c.in_ok-lower_part.ensures.preds c.loop-part.invariant.0,
  helpers-more (own_name c.args.naming.now.prefix) c.args.parts.now c.loop-part.part-index c.part-item.result (map pred_tree c.args.helpers.now.items) (map pred_tree c.loop-part.helpers.items) (map pred_tree c.lower_part.new.helpers.items) c.args.before
      c.loop-part.count c.in_ok-count.count c.loop-part-test.true c.part-item.is c.in_ok-count.ensures c.in_ok-lower_part.ensures.helpers c.loop-part.invariant.1,
)

pub returns-clause-preds : goal.returns-clause-preds
returns-clause-preds c =
    preds-end (own_name c.args.naming.now.prefix) c.args.parts.now c.loop-part.part-index (map pred_tree c.args.preds.now.items) (map pred_tree c.loop-part.preds.items) c.args.before c.loop-part.count c.loop-part-test.false c.loop-part.invariant.0

pub returns-clause-helpers : goal.returns-clause-helpers
returns-clause-helpers c =
    helpers-end (own_name c.args.naming.now.prefix) c.args.parts.now c.loop-part.part-index (map pred_tree c.args.helpers.now.items) (map pred_tree c.loop-part.helpers.items) c.args.before c.loop-part.count c.loop-part-test.false c.loop-part.invariant.1
