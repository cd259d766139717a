-- Sums of truths, each at most three and a 1, as they are posted. (Own.)
use Rattle.std.specs.Prelude.{pos}
use Rattle.pi_constraints.specs.declared.constraint.Rel.{Rel}
use Rattle.pi_constraints.specs.declared.constraint.Item.{Item}
use Rattle.pi_constraints.specs.declared.constraint.Constraint.{Constraint}
use Rattle.pi_prop_spec.specs.PostingSums.{of_number, of_item, added, difference}
use Rattle.pi_prop_spec.specs.Steps.{linear}

-- X - Y <= 0
abbrev pub apart : Item → Item → Constraint
apart x y = linear Rel.AtMost (difference (of_item x) (of_item y))

-- X - Y - Z <= 0
abbrev pub two_apart : Item → Item → Item → Constraint
two_apart x y z = linear Rel.AtMost (difference (difference (of_item x) (of_item y)) (of_item z))

-- X + Y - Z - 1 <= 0
abbrev pub both_apart : Item → Item → Item → Constraint
both_apart x y z = linear Rel.AtMost (difference (difference (added (of_item x) (of_item y)) (of_item z)) (of_number (pos 1)))

-- X + Y - 1 = 0
abbrev pub one_of : Item → Item → Constraint
one_of x y = linear Rel.Equal (difference (added (of_item x) (of_item y)) (of_number (pos 1)))
