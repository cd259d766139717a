use Rattle.std.proofs.lemmas.Result.{IfOk-weaker}
use Rattle.pi_rewrite_loops.proofs.ClauseLemmas.{one-after}
use Rattle.pi_rewrite_loops.proofs.loops.wide.Goals as goal

pub returns : goal.returns
returns c =
    IfOk-weaker c.later.result _ _ (λ made so. one-after made c.in_ok-count.count _ c.in_ok-count.ensures so) c.later.ensures
