use Rattle.pi_lib_constraints.proofs.GoalLemmas.{joined-shown}
use Rattle.pi_lib_constraints.proofs.goals.join.Goals as goal

pub returns-clause-shows : goal.returns-clause-shows
returns-clause-shows g c = λ t u is at too.
    joined-shown (g.S.StateStore.seen c.args.s.now) (g.S.StateStore.seen c.post.new.s) c.post.result c.args.connective c.args.a c.args.b t u is c.look-root.ensures.below at too c.post.ensures.shows
