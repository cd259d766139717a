-- A relation, and the truth of its sum.
use Rattle.pi_prop_read.specs.Relations.{comparison_of}
use Rattle.pi_prop_read.proofs.TruthTurns.{relation-truth, relation-refused}
use Rattle.pi_prop_read.proofs.truths.turns.relation_truth.Goals as goal

pub returns-in-Ok-truth_of_standing : goal.returns-in-Ok-truth_of_standing
returns-in-Ok-truth_of_standing g c = λ m s p q shown l.
    let w = (g.S.StateStore.seen c.args.s.now).now in
    relation-truth w c.read_relation.new.making c.truth_of_standing.new.self c.in-Ok.relation c.in-Ok-truth_of_standing.truth (comparison_of c.args.comparison) m c.args.left c.args.right (c.in-Ok.ensures m s p q shown l) c.in-Ok-truth_of_standing.ensures

pub returns : goal.returns
returns g c = λ m s p q shown l.
    let w = (g.S.StateStore.seen c.args.s.now).now in
    relation-refused w c.in-Err.stop (comparison_of c.args.comparison) m c.args.left c.args.right (c.in-Err.ensures m s p q shown l)
