use Rattle.pi_prop_spec.specs.Relations.{posts_standing, read_relation}
use Rattle.pi_prop_read.specs.Refs.{operand_at}
use Rattle.pi_prop_read.specs.Relations.{comparison_of, standing_of}
use Rattle.pi_prop_read.proofs.GoalLemmas.{refused-then, reads-then}
use Rattle.pi_prop_read.proofs.goals.post_relation.Goals as goal

pub returns-in-Ok-post_standing : goal.returns-in-Ok-post_standing
returns-in-Ok-post_standing g c = λ m s p q shown l.
    let w = (g.S.StateStore.seen c.args.s.now).now in
    let h = c.in-Ok.ensures m s p q shown l in
    let r = read_relation (comparison_of c.args.comparison) (operand_at w c.args.left) (operand_at w c.args.right) in
    reads-then r (λ x. posts_standing x.rel x.sum) m h.made (standing_of c.in-Ok.relation) tt c.post_standing.new.self h.is (c.in-Ok-post_standing.ensures h.made h.shown)

pub returns : goal.returns
returns g c = λ m s p q shown l.
    let w = (g.S.StateStore.seen c.args.s.now).now in
    let r = read_relation (comparison_of c.args.comparison) (operand_at w c.args.left) (operand_at w c.args.right) in
    refused-then w c.in-Err.stop (r m) (λ x. posts_standing x.rel x.sum) (c.in-Err.ensures m s p q shown l)
