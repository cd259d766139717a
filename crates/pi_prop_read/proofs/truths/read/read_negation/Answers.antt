use Rattle.pi_prop_read.specs.TruthNodes.{boolean_at}
use Rattle.pi_prop_read.proofs.TruthTurns.{as-negation}
use Rattle.pi_prop_read.proofs.truths.read.read_negation.Goals as goal

pub returns : goal.returns
returns g c = λ m s here shown l.
    let w = (g.S.StateStore.seen c.args.s.now).now in
    as-negation w c.read_under.new.making c.read_under.result (boolean_at w c.args.part) m (c.read_under.ensures m s here tt shown l)
