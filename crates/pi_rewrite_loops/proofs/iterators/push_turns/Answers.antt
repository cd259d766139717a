use Rattle.pi_rewrite_spec.specs.Iterators.{element_helper}
use Rattle.pi_rewrite_loops.specs.Helpers.{loop_of, lowered, turns_by}
use Rattle.pi_rewrite_loops.proofs.ClauseLemmas.{two-helpers}
use Rattle.pi_rewrite_loops.proofs.iterators.push_turns.Goals as goal

pub returns : goal.returns
returns c p is =
    two-helpers c.args.helpers.now.items c.push.new.self.items c.push-2.new.self.items c.in_ok-first.first c.in_ok-second.second (element_helper c.args.name.now (loop_of c.args.l.now)) (turns_by c.args.name.now (loop_of c.args.l.now) p (lowered c.args.turn.items c.args.slots.now)) c.in_ok-first.ensures (c.in_ok-second.ensures p is) c.in_ok-push.ensures.items c.in_ok-push-2.ensures.items
