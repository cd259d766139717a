use Rattle.std.proofs.lemmas.Result.{IfOk-weaker}
use Rattle.pi_rewrite_loops.proofs.WalkLemmas.{cell-body}
use Rattle.pi_rewrite_loops.proofs.walks.cell_body.Goals as goal

pub returns : goal.returns
returns c =
    IfOk-weaker c.ticked_call.result _ _ (λ made so. cell-body c.args.turn.now c.args.slots c.new-args.result.items c.push_slots.new.terms.items c.deref.result.now made c.new-args.ensures.items c.in_ok-push_slots.ensures c.deref.ensures.value so) c.ticked_call.ensures
