use Rattle.pi_lib_constraints.proofs.GoalLemmas.{element-shown}
use Rattle.pi_lib_constraints.proofs.goals.call_of_element.Goals as goal

pub returns-clause-shows : goal.returns-clause-shows
returns-clause-shows g c = λ t u w is at too three.
    element-shown (g.S.StateStore.seen c.args.s.now) (g.S.StateStore.seen c.post.new.s) c.post.result c.args.index c.args.items c.args.value t u w is c.look-root.ensures.below at too three c.post.ensures.shows
