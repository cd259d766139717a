-- The limit that the items don't keep is that of the constraint.
use Rattle.std.proofs.Common.{sym}
use Rattle.pi_constraints.specs.declared.constraint.Constraint.{Constraint}
use Rattle.pi_prop_made.proofs.making.Making.post_distinct.Goals as goal

pub returns-in-Some : goal.returns-in-Some
returns-in-Some c = λ m xs a s. c.refuse.ensures m (Constraint.Distinct xs) s (sym (c.in-Some.ensures xs a))
