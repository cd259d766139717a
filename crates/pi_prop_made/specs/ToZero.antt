-- Sums as they stand to 0, where one that is below 0 has 1 more that is at most 0. (Own.)
use Rattle.std.specs.Prelude.{ℕ, cond, List, ℤ, pos, ◌+ℤ◌}
use Rattle.pi_constraints.specs.declared.constraint.Rel.{Rel}
use Rattle.pi_constraints.specs.declared.constraint.Item.{Item}
use Rattle.pi_constraints.specs.declared.constraint.Constraint.{Constraint}
use Rattle.pi_prop_spec.specs.PostingSums.{Sum, of_number, added}
use Rattle.pi_prop_spec.specs.Steps.{Reading, gives, then, posting}
use Rattle.pi_prop_spec.specs.Relations.{stands, posts_never}
use Rattle.pi_prop_spec.specs.Truths.{new_truth}
use Rattle.pi_prop_made.specs.declared.to_zero.ToZero.{ToZero}

abbrev pub rel_of : ToZero → Rel
rel_of ToZero.Equal = Rel.Equal
rel_of ToZero.Unequal = Rel.Unequal
rel_of ToZero.AtMost = Rel.AtMost
rel_of ToZero.Below = Rel.AtMost

abbrev pub constant_for : ToZero → ℤ → ℤ
constant_for ToZero.Equal k = k
constant_for ToZero.Unequal k = k
constant_for ToZero.AtMost k = k
constant_for ToZero.Below k = k +ℤ pos 1

abbrev pub sum_for : ToZero → Sum → Sum
sum_for ToZero.Equal u = u
sum_for ToZero.Unequal u = u
sum_for ToZero.AtMost u = u
sum_for ToZero.Below u = added u (of_number (pos 1))

-- what a number posts that is to stand so, and the truth of a sum with terms
abbrev pub posts_number : Rel → ℤ → Reading (Unit {0})
posts_number rel k = cond (stands rel k) (gives tt) posts_never

abbrev pub reified_by : Rel → List (ℤ × ℕ) → ℤ → Reading Item
reified_by rel terms k = then new_truth (λ x. posting (Constraint.Reified x rel terms k) (gives x))
