use Rattle.std.proofs.lemmas.Result.{IfOk-weaker}
use Rattle.pi_rewrite_loops.proofs.WalkLemmas.{walked-is}
use Rattle.pi_rewrite_loops.proofs.walks.push_walked.Goals as goal

pub returns : goal.returns
returns c =
    IfOk-weaker c.behind.result _ _ (λ _ so. walked-is c.args.collection.now c.args.found c.push_counted.new.found c.args.slots.now c.behind.new.self c.args.goals.now.items c.push_counted.new.goals.items (c.in_ok-push_counted.ensures c.args.slots.now) so) c.behind.ensures
