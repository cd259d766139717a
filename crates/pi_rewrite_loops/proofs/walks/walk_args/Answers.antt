use Rattle.pi_rewrite_loops.proofs.WalkLemmas.{walk-args}
use Rattle.pi_rewrite_loops.proofs.walks.walk_args.Goals as goal

pub returns : goal.returns
returns c =
    walk-args c.args.collection c.in_ok-one.one c.args.past c.new-args.result.items c.push.new.self.items c.push-2.new.self.items c.push_slot.new.terms.items c.new-args.ensures.items c.in_ok-push.ensures.items c.in_ok-one.ensures.ok c.in_ok-push-2.ensures.items c.in_ok-push_slot.ensures
