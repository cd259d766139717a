use Rattle.pi_constraints.specs.declared.constraint.Constraint.{Constraint}
use Rattle.pi_prop_read.specs.Refs.{value_at}
use Rattle.pi_prop_read.proofs.GoalLemmas.{listed-posted, listed-refused}
use Rattle.pi_prop_read.proofs.goals.post_different.Goals as goal

pub returns-in-Ok-post_different : goal.returns-in-Ok-post_different
returns-in-Ok-post_different g c = λ m s here shown.
    let w = (g.S.StateStore.seen c.args.s.now).now in
    let h = c.in-Ok.ensures m s here in
    listed-posted (value_at w c.args.collection) h.0 Constraint.Different m c.post_different.new.self h.1 (c.in-Ok-post_different.ensures m h.0 h.2 shown)

pub returns-in-Err : goal.returns-in-Err
returns-in-Err g c = λ m s here shown.
    let w = (g.S.StateStore.seen c.args.s.now).now in
    listed-refused w c.in-Err.stop (value_at w c.args.collection) Constraint.Different m (c.in-Err.ensures m s here)
