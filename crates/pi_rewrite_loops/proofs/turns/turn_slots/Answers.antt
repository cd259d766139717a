use Rattle.std.proofs.lemmas.Result.{IfOk-weaker}
use Rattle.pi_rewrite_loops.specs.Helpers.{loop_of}
use Rattle.pi_rewrite_loops.proofs.TurnLemmas.{turn-long}
use Rattle.pi_rewrite_loops.proofs.turns.turn_slots.Goals as goal

pub returns : goal.returns
returns c =
    IfOk-weaker c.slots_behind.result _ _ (λ made so. turn-long (loop_of c.args.l.now) made so) c.slots_behind.ensures
