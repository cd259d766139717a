use Rattle.std.proofs.lemmas.Result.{IfOk-weaker}
use Rattle.pi_rewrite_loops.specs.Helpers.{loop_of}
use Rattle.pi_rewrite_loops.proofs.TurnLemmas.{ends-put}
use Rattle.pi_rewrite_loops.proofs.turns.push_end.Goals as goal

pub returns : goal.returns
returns c =
    IfOk-weaker c.push_closing.result _ _ (λ _ so. ends-put (loop_of c.args.l.now) c.args.slots.now c.in_ok-head.head c.in_ok-first.first c.in_ok-free.free c.args.goals.now.items c.push_closing.new.goals.items c.in_ok-first.ensures c.in_ok-free.ensures c.in_ok-head.ensures so) c.push_closing.ensures
