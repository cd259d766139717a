use Rattle.std.proofs.lemmas.Result.{IfOk-weaker}
use Rattle.pi_rewrite_loops.proofs.ArrayLemmas.{less-of}
use Rattle.pi_rewrite_loops.proofs.walks.is_left.Goals as goal

pub returns : goal.returns
returns c =
    IfOk-weaker c.less.result _ _ (λ made so. less-of c.in_ok-next.next _ 2 made c.in_ok-next.ensures so) c.less.ensures
