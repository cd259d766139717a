use Rattle.std.proofs.Common.{◌≡◌, ◌++◌, ◌∙◌, sym, map, List, true, false, Bool, refl, rules}
use Rattle.std.specs.Prelude.{codes}
use Rattle.std.proofs.lemmas.Result.{IfOk-weaker}
use Rattle.pi_core.specs.CoreTree.{PredTree, pred_tree}
use Rattle.pi_meaning.specs.Shared.Names.{is_planner}
use Rattle.pi_meaning.specs.Machine.Step.{unknown_ball, is_defined}
use Rattle.pi_engine_facts.proofs.NameTests.{plain-unknown, planner-unknown}
use Rattle.pi_engine_facts.proofs.unknown.unknown_name.Goals as goal

pub returns-then-not-is_planner : goal.returns-then-not-is_planner
returns-then-not-is_planner c =
    let preds : List PredTree = map pred_tree (c.args.preds.now ++ c.args.helpers.now) in
    let other : is_planner c.args.name.now c.args.arity ≡ false = search rules in
    IfOk-weaker c.unknown_ball.result (λ made. made ≡ unknown_ball c.args.name.now c.args.arity) _ (λ made is. is ∙ plain-unknown preds c.args.name.now c.args.arity other) c.unknown_ball.ensures

pub returns-then-not-defines : goal.returns-then-not-defines
returns-then-not-defines c =
    let preds : List PredTree = map pred_tree (c.args.preds.now ++ c.args.helpers.now) in
    let planner : is_planner c.args.name.now c.args.arity ≡ true = search rules in
    let final : is_defined preds (codes "final") 1 ≡ false = search rules in
    let action : Bool = is_defined preds (codes "action") 4 in
    IfOk-weaker c.unknown_ball-then-not-defines.result (λ made. made ≡ unknown_ball (codes "final") 1) _ (λ made is. is ∙ sym (planner-unknown preds c.args.name.now c.args.arity false action planner final refl)) c.unknown_ball-then-not-defines.ensures

pub returns-then-not-defines-2 : goal.returns-then-not-defines-2
returns-then-not-defines-2 c =
    let preds : List PredTree = map pred_tree (c.args.preds.now ++ c.args.helpers.now) in
    let planner : is_planner c.args.name.now c.args.arity ≡ true = search rules in
    let final : is_defined preds (codes "final") 1 ≡ true = search rules in
    let action : is_defined preds (codes "action") 4 ≡ false = search rules in
    IfOk-weaker c.unknown_ball-then-not-defines-2.result (λ made. made ≡ unknown_ball (codes "action") 4) _ (λ made is. is ∙ sym (planner-unknown preds c.args.name.now c.args.arity true false planner final action)) c.unknown_ball-then-not-defines-2.ensures

pub returns : goal.returns
returns c =
    let preds : List PredTree = map pred_tree (c.args.preds.now ++ c.args.helpers.now) in
    let planner : is_planner c.args.name.now c.args.arity ≡ true = search rules in
    let final : is_defined preds (codes "final") 1 ≡ true = search rules in
    let action : is_defined preds (codes "action") 4 ≡ true = search rules in
    IfOk-weaker c.unknown_ball-2.result (λ made. made ≡ unknown_ball c.args.name.now c.args.arity) _ (λ made is. is ∙ sym (planner-unknown preds c.args.name.now c.args.arity true true planner final action)) c.unknown_ball-2.ensures
