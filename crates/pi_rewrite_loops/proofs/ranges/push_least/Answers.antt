use Rattle.std.proofs.Common.{◌∷◌, [], refl}
use Rattle.std.proofs.lemmas.Result.{IfOk-weaker}
use Rattle.pi_rewrite_loops.proofs.RangeLemmas.{least-put}
use Rattle.pi_rewrite_loops.proofs.ranges.push_least.Goals as goal

pub returns : goal.returns
returns c =
    IfOk-weaker c.push_apply.result _ _ (λ _ so. least-put c.args.term.now c.in_ok-one.one c.in_ok-other.other c.args.into c.args.goals.now.items c.push_apply.new.goals.items (c.in_ok-one.one ∷ c.in_ok-other.other ∷ []) c.in_ok-one.ensures.ok c.in_ok-other.ensures.ok refl so) c.push_apply.ensures
