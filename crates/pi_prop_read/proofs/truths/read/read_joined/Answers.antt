use Rattle.pi_prop_read.proofs.TruthTurns.{as-joined}
use Rattle.pi_prop_read.proofs.truths.read.read_joined.Goals as goal

pub returns : goal.returns
returns g c = λ m s left right shown l.
    let w = (g.S.StateStore.seen c.args.s.now).now in
    as-joined w c.read_under.new.making c.read_under.result c.args.connective c.args.left c.args.right m (c.read_under.ensures m s left right shown l)
