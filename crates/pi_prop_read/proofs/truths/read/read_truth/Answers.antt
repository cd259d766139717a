use Rattle.pi_prop_spec.specs.Truths.{read_truth}
use Rattle.pi_prop_read.specs.TruthNodes.{boolean_at}
use Rattle.pi_prop_read.proofs.TruthTurns.{first-turn}
use Rattle.pi_prop_read.proofs.truths.read.read_truth.Goals as goal

pub returns : goal.returns
returns g c = λ m s here shown l.
    let w = (g.S.StateStore.seen c.args.s.now).now in
    c.take_turns.ensures (read_truth (boolean_at w c.args.term) m) s (first-turn w c.args.making.now c.args.term m c.new-frames.result.items c.new-frames.ensures.items here shown l)
