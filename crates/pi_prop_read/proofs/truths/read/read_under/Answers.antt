use Rattle.pi_prop_spec.specs.Steps.{then}
use Rattle.pi_prop_spec.specs.Truths.{read_truth}
use Rattle.pi_prop_read.specs.TruthNodes.{boolean_at}
use Rattle.pi_prop_read.specs.TruthFrames.{come}
use Rattle.pi_prop_read.proofs.TruthTurns.{turn-under}
use Rattle.pi_prop_read.proofs.truths.read.read_under.Goals as goal

pub returns-in-Ok : goal.returns-in-Ok
returns-in-Ok g c = λ m s here frame shown l.
    let w = (g.S.StateStore.seen c.args.s.now).now in
    c.take_turns.ensures (then (read_truth (boolean_at w c.args.term)) (come w c.args.frame) m) s
    (turn-under w c.args.making.now c.args.term c.args.frame m c.new-frames.result.items c.push.new.self.items c.new-frames.ensures.items c.in-Ok.ensures.items here frame shown l)
