use Rattle.pi_prop_read.specs.TruthNodes.{boolean_at}
use Rattle.pi_prop_read.proofs.goals.post_truth.Goals as goal

pub returns : goal.returns
returns g c = λ m s p shown l.
    let w = (g.S.StateStore.seen c.args.s.now).now in
    c.post_known.ensures w m (boolean_at w c.args.expression) (c.read_truth-truth.ensures m s p shown l)
