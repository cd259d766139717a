use Rattle.std.proofs.lemmas.Result.{IfOk-weaker}
use Rattle.pi_rewrite_slots.specs.Indexed.{names_in}
use Rattle.pi_rewrite_loops.proofs.EntryLemmas.{started-is}
use Rattle.pi_rewrite_loops.proofs.entries.push_started.Goals as goal

pub returns : goal.returns
returns c =
    IfOk-weaker c.push_filling.result _ _ (λ _ so. started-is c.args.filled c.in_ok-count.count (names_in c.args.before.now) c.args.slots.now c.all_written.new.slots c.args.goals.now.items c.push_filling.new.goals.items c.in_ok-all.all c.in_ok-count.ensures c.in_ok-all.ensures.is c.in_ok-all.ensures.slots so) c.push_filling.ensures
