-- What is open is closed, and the loop is put.
use Rattle.std.specs.Prelude.{map}
use Rattle.std.proofs.lemmas.Result.{IfOk-weaker}
use Rattle.pi_core.specs.CoreTree.{pred_tree}
use Rattle.pi_rewrite_goals.proofs.whole.end_foreach.Goals as goal

pub returns : goal.returns
returns c = IfOk-weaker c.finish.result _ _ (λ _ so. record {
  turn = c.close.new.goals.items;
  slots = c.close.new.slots;
  owned = map pred_tree c.close.new.helpers.items;
  closes = c.in_ok-close.ensures.goals;
  owns = c.in_ok-close.ensures.helpers;
  ends = so;
}) c.finish.ensures
