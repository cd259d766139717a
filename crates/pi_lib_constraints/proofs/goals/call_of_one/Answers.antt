use Rattle.pi_lib_constraints.specs.declared.kinds.GoalOfOne.{GoalOfOne}
use Rattle.pi_lib_constraints.proofs.GoalLemmas.{one-shown}
use Rattle.pi_lib_constraints.proofs.goals.call_of_one.Goals as goal

pub returns-in-Negation-clause-shows : goal.returns-in-Negation-clause-shows
returns-in-Negation-clause-shows g c = λ t is at.
    one-shown (g.S.StateStore.seen c.args.s.now) (g.S.StateStore.seen c.post.new.s) c.post.result c.args.goal GoalOfOne.Negation c.args.a t c.in-Negation.is is c.look-root.ensures.below at c.post.ensures.shows

pub returns-in-Different-clause-shows : goal.returns-in-Different-clause-shows
returns-in-Different-clause-shows g c = λ t is at.
    one-shown (g.S.StateStore.seen c.args.s.now) (g.S.StateStore.seen c.post-in-Different.new.s) c.post-in-Different.result c.args.goal GoalOfOne.Different c.args.a t c.in-Different.is is c.look-root.ensures.below at c.post-in-Different.ensures.shows

pub returns-in-Distinct-clause-shows : goal.returns-in-Distinct-clause-shows
returns-in-Distinct-clause-shows g c = λ t is at.
    one-shown (g.S.StateStore.seen c.args.s.now) (g.S.StateStore.seen c.post-in-Distinct.new.s) c.post-in-Distinct.result c.args.goal GoalOfOne.Distinct c.args.a t c.in-Distinct.is is c.look-root.ensures.below at c.post-in-Distinct.ensures.shows
