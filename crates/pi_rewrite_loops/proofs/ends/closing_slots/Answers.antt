use Rattle.std.proofs.Common.{rules}
use Rattle.std.proofs.lemmas.Result.{IfOk-weaker}
use Rattle.pi_rewrite_loops.proofs.EndLemmas.{closing-fit}
use Rattle.pi_rewrite_loops.proofs.ends.closing_slots.Goals as goal

pub returns : goal.returns
returns c =
    IfOk-weaker c.later-2.result _ _ (λ made so. closing-fit c.args.l.now.kept.items c.args.free c.in_ok-count.count c.in_ok-both.both made (search rules) c.in_ok-both.ensures so) c.later-2.ensures
