use Rattle.pi_rewrite_loops.proofs.TurnLemmas.{behind-tick}
use Rattle.pi_rewrite_loops.proofs.turns.behind_tick.Goals as goal

pub returns : goal.returns
returns c = behind-tick c.args.goals.items c.new-turn.result.items c.push.new.self.items c.append.new.self.items c.in_ok-tick.tick c.in_ok-tick.ensures.ok c.new-turn.ensures.items c.in_ok-push.ensures.items c.in_ok-append.ensures.items
