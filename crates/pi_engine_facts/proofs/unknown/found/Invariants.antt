use Rattle.std.proofs.Common.{◌≡◌, false, map, drop}
use Rattle.std.specs.Prelude.{option_map}
use Rattle.pi_core.specs.CoreTree.{pred_tree, find_pred}
use Rattle.pi_engine_facts.proofs.NameTests.{loud}
use Rattle.pi_engine_facts.proofs.unknown.found.Given as goal

-- the first one is among those that are left
abbrev pub invariant-loop-pred : goal.invariant-loop-pred
invariant-loop-pred l = option_map loud (find_pred false l.name l.arity (map pred_tree (drop l.pred-index l.preds))) ≡ option_map loud (find_pred false l.name l.arity (map pred_tree l.preds))
