use Rattle.std.proofs.Common.{◌∷◌, [], refl}
use Rattle.std.proofs.lemmas.Result.{IfOk-weaker}
use Rattle.pi_rewrite_loops.proofs.RangeLemmas.{count-put}
use Rattle.pi_rewrite_loops.proofs.ranges.push_count.Goals as goal

pub returns : goal.returns
returns c =
    IfOk-weaker c.push_apply.result _ _ (λ _ so. count-put c.args.range.now.low c.in_ok-low.low c.in_ok-last.last _ c.args.into c.args.goals.now.items c.push_apply.new.goals.items (c.in_ok-low.low ∷ c.in_ok-last.last ∷ []) c.in_ok-low.ensures.ok c.in_ok-last.ensures refl so) c.push_apply.ensures
