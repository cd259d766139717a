use Rattle.std.proofs.lemmas.Result.{IfOk-weaker}
use Rattle.pi_rewrite_loops.proofs.ArrayLemmas.{choice-of}
use Rattle.pi_rewrite_loops.proofs.ranges.range_body.Goals as goal

pub returns : goal.returns
returns c =
    IfOk-weaker c.if_else.result _ _ (λ made so. choice-of c.in_ok-test.test c.in_ok-then.then c.in_ok-other.other _ _ _ made c.in_ok-test.ensures c.in_ok-then.ensures c.in_ok-other.ensures so) c.if_else.ensures.ok
