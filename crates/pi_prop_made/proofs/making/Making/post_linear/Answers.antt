use Rattle.pi_constraints.specs.declared.constraint.Constraint.{Constraint}
use Rattle.pi_prop_made.proofs.making.Making.post_linear.Goals as goal

pub returns-in-Err : goal.returns-in-Err
returns-in-Err c = λ m k s n. c.refuse.ensures m (Constraint.Linear c.args.rel c.args.sum.now.terms k) s (c.in-Err.ensures k n)
