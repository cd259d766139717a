use Rattle.std.proofs.lemmas.Result.{IfOk-weaker}
use Rattle.pi_rewrite_loops.proofs.RangeLemmas.{counting-is}
use Rattle.pi_rewrite_loops.proofs.ranges.push_counting.Goals as goal

pub returns : goal.returns
returns c =
    IfOk-weaker c.push_number-2.result _ _ (λ _ so ns at. counting-is c.args.range.now.low c.args.range.now.step c.args.range.now.high ns c.args.count c.in_ok-first.first c.in_ok-second.second c.args.goals.now.items c.push_count.new.goals.items c.push_number.new.goals.items c.push_number-2.new.goals.items c.in_ok-push_count.ensures c.in_ok-first.ensures c.in_ok-push_number.ensures c.in_ok-second.ensures so at) c.push_number-2.ensures
