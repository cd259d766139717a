use Rattle.std.proofs.lemmas.Result.{IfOk-weaker}
use Rattle.pi_rewrite_loops.proofs.WalkLemmas.{turn-body}
use Rattle.pi_rewrite_loops.proofs.elements.turn_body.Goals as goal

pub returns : goal.returns
returns c =
    IfOk-weaker c.in_turn.result _ _ (λ made so. turn-body c.args.turn.items c.push.new.self.items c.in_ok-next.next _ made c.in_ok-next.ensures c.in_ok-push.ensures.items so) c.in_turn.ensures
