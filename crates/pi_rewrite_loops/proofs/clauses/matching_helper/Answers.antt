use Rattle.std.proofs.lemmas.Result.{IfOk-weaker}
use Rattle.pi_core.specs.CoreTree.{pred_tree}
use Rattle.pi_rewrite_loops.proofs.ClauseLemmas.{matching-is}
use Rattle.pi_rewrite_loops.proofs.clauses.matching_helper.Goals as goal

pub returns : goal.returns
returns c =
    IfOk-weaker c.helper.result _ _ (λ made so. matching-is (pred_tree made) c.args.name.now c.in_ok-arity.arity _ c.args.matched c.args.passed c.new-clauses.result.items c.push.new.self.items c.push-2.new.self.items c.in_ok-arity.ensures c.new-clauses.ensures.items c.in_ok-push.ensures.items c.in_ok-push-2.ensures.items so) c.helper.ensures
