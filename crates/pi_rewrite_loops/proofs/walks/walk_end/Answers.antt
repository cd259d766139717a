use Rattle.std.proofs.lemmas.Result.{IfOk-weaker}
use Rattle.pi_rewrite_loops.specs.Helpers.{loop_of}
use Rattle.pi_rewrite_loops.proofs.WalkLemmas.{walk-end}
use Rattle.pi_rewrite_loops.proofs.walks.walk_end.Goals as goal

pub returns : goal.returns
returns c =
    IfOk-weaker c.end.result _ _ (λ made so. walk-end (loop_of c.args.l.now) c.args.count c.args.free c.in_ok-variable.variable c.in_ok-slots.slots _ made c.in_ok-variable.ensures c.in_ok-slots.ensures so) c.end.ensures
