use Rattle.std.proofs.Common.{◌∷◌, [], refl}
use Rattle.std.proofs.lemmas.Result.{IfOk-weaker}
use Rattle.pi_rewrite_loops.proofs.RangeLemmas.{further-is}
use Rattle.pi_rewrite_loops.proofs.ranges.further.Goals as goal

pub returns : goal.returns
returns c =
    IfOk-weaker c.comp.result _ _ (λ made so. further-is c.args.range.now.step c.args.range.now.high c.in_ok-step.step c.in_ok-high.high made (c.in_ok-step.step ∷ c.in_ok-high.high ∷ []) c.in_ok-step.ensures.ok c.in_ok-high.ensures.ok refl so) c.comp.ensures.ok
