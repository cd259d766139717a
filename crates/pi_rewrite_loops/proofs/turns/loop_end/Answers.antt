use Rattle.std.proofs.lemmas.Result.{IfOk-weaker}
use Rattle.pi_rewrite_loops.specs.Helpers.{loop_of}
use Rattle.pi_rewrite_loops.proofs.TurnLemmas.{end-whole}
use Rattle.pi_rewrite_loops.proofs.turns.loop_end.Goals as goal

pub returns : goal.returns
returns c =
    IfOk-weaker c.in_turn.result _ _ (λ made so. end-whole (loop_of c.args.l.now) c.args.slots.now c.new-goals.result.items c.push_end.new.goals.items made c.new-goals.ensures.items c.in_ok-push_end.ensures so) c.in_turn.ensures
