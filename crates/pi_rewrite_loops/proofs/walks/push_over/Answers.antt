use Rattle.std.proofs.lemmas.Result.{IfOk-weaker}
use Rattle.pi_rewrite_loops.specs.Helpers.{loop_of}
use Rattle.pi_rewrite_loops.proofs.WalkLemmas.{over-is}
use Rattle.pi_rewrite_loops.proofs.walks.push_over.Goals as goal

pub returns : goal.returns
returns c =
    IfOk-weaker c.push_entered.result _ _ (λ _ so. over-is (loop_of c.args.l.now) c.args.collection c.args.found c.args.slots.now c.push_walked.new.slots c.push_entered.new.slots c.in_ok-count.count c.saturating_sub.result c.args.goals.now.items c.push_walked.new.goals.items c.push_entered.new.goals.items c.in_ok-first.first.items c.in_ok-push_walked.ensures c.in_ok-count.ensures c.saturating_sub.ensures c.in_ok-first.ensures so) c.push_entered.ensures
