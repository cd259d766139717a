use Rattle.std.proofs.lemmas.Result.{IfOk-weaker}
use Rattle.pi_rewrite_loops.specs.Helpers.{loop_of}
use Rattle.pi_rewrite_loops.proofs.RangeLemmas.{through-is}
use Rattle.pi_rewrite_loops.proofs.ranges.push_through.Goals as goal

pub returns : goal.returns
returns c =
    IfOk-weaker c.push_entered.result _ _ (λ _ so. through-is (loop_of c.args.l.now) c.args.range.low c.args.range.step c.args.range.high c.args.found c.args.slots.now c.three_behind.new.slots c.push_entered.new.slots c.args.goals.now.items c.push_counting.new.goals.items c.push_entered.new.goals.items c.in_ok-args.args.items c.in_ok-count.ensures.slots (c.in_ok-args.ensures c.args.found c.in_ok-count.ensures.is) (c.in_ok-push_counting.ensures c.args.found c.in_ok-count.ensures.is) so) c.push_entered.ensures
