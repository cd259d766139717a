use Rattle.std.proofs.lemmas.Result.{IfOk-weaker}
use Rattle.pi_rewrite_loops.proofs.ArrayLemmas.{less-of}
use Rattle.pi_rewrite_loops.proofs.ranges.are_more.Goals as goal

pub returns : goal.returns
returns c =
    IfOk-weaker c.less.result _ _ (λ made so. less-of c.in_ok-one.one _ c.args.count made c.in_ok-one.ensures.ok so) c.less.ensures
