use Rattle.std.proofs.Common.{false, map, sym, ◌∙◌, ap}
use Rattle.std.specs.Prelude.{option_map}
use Rattle.std.proofs.lemmas.List.{drop_all}
use Rattle.pi_core.specs.CoreTree.{pred_tree, find_pred}
use Rattle.pi_engine_facts.proofs.NameTests.{loud, found-here, found-next}
use Rattle.pi_engine_facts.proofs.unknown.found.Goals as goal

pub returns-then-is_named : goal.returns-then-is_named
returns-then-is_named c =
    sym (found-here c.args.name.now c.args.arity c.args.preds.now c.loop-pred.pred-index c.pred-item.result c.loop-pred-test.true c.pred-item.is (sym c.is_named.ensures ∙ c.if-is_named.true)) ∙ c.loop-pred.invariant

pub loop-pred-preserved : goal.loop-pred-preserved
loop-pred-preserved c =
    found-next c.args.name.now c.args.arity c.args.preds.now c.loop-pred.pred-index c.pred-item.result c.loop-pred-test.true c.pred-item.is (sym c.is_named.ensures ∙ c.if-is_named.false) ∙ c.loop-pred.invariant

pub returns : goal.returns
unfolding find_pred
returns c = sym (ap (λ l. option_map loud (find_pred false c.args.name.now c.args.arity (map pred_tree l))) (drop_all c.loop-pred.pred-index c.args.preds.now c.loop-pred-test.false)) ∙ c.loop-pred.invariant
