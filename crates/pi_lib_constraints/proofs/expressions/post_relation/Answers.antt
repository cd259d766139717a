use Rattle.pi_terms.specs.Tree.{comp, no_trees, tree}
use Rattle.pi_lib_constraints.specs.Names.{comparison_name}
use Rattle.pi_lib_constraints.proofs.GoalLemmas.{relation-posts}
use Rattle.pi_prop_read.proofs.RootLemmas.{there}
use Rattle.pi_lib_constraints.proofs.expressions.post_relation.Goals as goal

pub returns-clause-shows : goal.returns-clause-shows
returns-clause-shows g c = λ t u is at too.
    let v = g.S.StateStore.seen c.args.s.now in
    let h = relation-posts v c.args.comparison c.args.a c.args.b t u is c.look-root.ensures.below at too in
    c.post_goal.ensures.shows (comp (comparison_name c.args.comparison) (tree t (tree u no_trees))) is (there v.now c.args.a t at, there v.now c.args.b u too) h.below h.same
