use Rattle.std.proofs.lemmas.Result.{IfOk-weaker}
use Rattle.pi_rewrite_loops.proofs.WalkLemmas.{counted-is}
use Rattle.pi_rewrite_loops.proofs.walks.push_counted.Goals as goal

pub returns : goal.returns
returns c =
    IfOk-weaker c.push_with_one.result _ _ (λ _ so ns. counted-is c.args.collection.now c.in_ok-items.items ns c.value_slot.new.self c.value_slot-2.new.self c.args.found.now c.in_ok-count.count c.in_ok-past.past c.args.goals.now.items c.push_apply.new.goals.items c.push_with_one.new.goals.items c.in_ok-items.ensures.ok c.in_ok-count.ensures.is c.in_ok-count.ensures.slots c.in_ok-past.ensures.is c.in_ok-past.ensures.slots c.in_ok-push_apply.ensures so) c.push_with_one.ensures
