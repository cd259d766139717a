use Rattle.std.proofs.lemmas.Result.{IfOk-weaker}
use Rattle.pi_rewrite_loops.proofs.ArrayLemmas.{less-of}
use Rattle.pi_rewrite_loops.proofs.ranges.is_some.Goals as goal

pub returns : goal.returns
returns c =
    IfOk-weaker c.less.result _ _ (λ made so. less-of c.in_ok-none.none _ 1 made c.in_ok-none.ensures.ok so) c.less.ensures
