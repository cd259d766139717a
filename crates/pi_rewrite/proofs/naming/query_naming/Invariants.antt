use Rattle.std.proofs.Common.{◌≡◌, map, drop}
use Rattle.pi_core.specs.CoreTree.{pred_tree}
use Rattle.pi_rewrite.specs.Built.{longest_name}
use Rattle.pi_rewrite.proofs.naming.query_naming.Given as goal

-- the most so far, and the predicates and functions ahead
abbrev pub invariant-loop-pred : goal.invariant-loop-pred
invariant-loop-pred l = longest_name l.most (map pred_tree (drop l.pred-index l.preds)) ≡ longest_name 0 (map pred_tree l.preds)
