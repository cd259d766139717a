-- Relations between operands: which sum stands how to 0, and what is posted. (A User's Guide to Picat, 'Constraints'; the forms are own.)
use Rattle.std.specs.Prelude.{ℕ, Bool, not, cond, List, [], ◌∷◌, ℤ, pos, int_le}
use Rattle.std.specs.Ordering.{int_eq}
use Rattle.pi_constraints.specs.declared.constraint.Rel.{Rel}
use Rattle.pi_prop_spec.specs.Operands.{Operand, Comparison, equal, unequal, less, at_most, greater, at_least}
use Rattle.pi_prop_spec.specs.PostingSums.{Sum, of_number, of_variable, added, difference}
use Rattle.pi_prop_spec.specs.Steps.{Reading, gives, then, new_variable, posting, linear, step, read_operand}

-- a sum, and how it stands to 0
pub record Standing : Type 0 where
  pub rel : Rel
  pub sum : Sum

-- A #= B is A - B = 0, and A #!= B is A - B unequal 0; A #=< B is A - B <= 0, and A #< B is A - B + 1 <= 0. #>= and #> are #=< and #< with the sides exchanged.
abbrev pub relation_of : Comparison → Rel
relation_of equal = Rel.Equal
relation_of unequal = Rel.Unequal
relation_of less = Rel.AtMost
relation_of at_most = Rel.AtMost
relation_of greater = Rel.AtMost
relation_of at_least = Rel.AtMost

-- the difference of the sides, which is a step
abbrev pub sides_apart : Comparison → Sum → Sum → Sum
sides_apart equal u v = difference u v
sides_apart unequal u v = difference u v
sides_apart less u v = difference u v
sides_apart at_most u v = difference u v
sides_apart greater u v = difference v u
sides_apart at_least u v = difference v u

-- 1 more where the sides may not be equal
abbrev pub and_apart : Comparison → Sum → Sum
and_apart equal u = u
and_apart unequal u = u
and_apart less u = added u (of_number (pos 1))
and_apart at_most u = u
and_apart greater u = added u (of_number (pos 1))
and_apart at_least u = u

-- the operands are read as they are written, the left one before the right one, whatever sign stands between them
unfoldable pub read_relation : Comparison → Operand → Operand → Reading Standing
read_relation c x y = then (read_operand x) (λ u. then (read_operand y) (λ v. then (step (sides_apart c u v)) (λ w. gives (record { rel = relation_of c; sum = and_apart c w }))))

-- ---- what is posted

-- how a number stands to 0, as a test
abbrev pub stands : Rel → ℤ → Bool
stands Rel.Equal k = int_eq k (pos 0)
stands Rel.Unequal k = not (int_eq k (pos 0))
stands Rel.AtMost k = int_le k (pos 0)

-- what is never so: N <= 0 and 1 - N <= 0, over a new variable N
abbrev pub posts_never : Reading (Unit {0})
posts_never = then new_variable (λ n. posting (linear Rel.AtMost (of_variable n)) (posting (linear Rel.AtMost (difference (of_number (pos 1)) (of_variable n))) (gives tt)))

-- a sum whose terms all cancel posts nothing where it stands so
abbrev pub posts_by_terms : List (ℤ × ℕ) → Rel → Sum → Reading (Unit {0})
posts_by_terms [] rel u = cond (stands rel u.constant) (gives tt) posts_never
posts_by_terms (t ∷ ts) rel u = posting (linear rel u) (gives tt)

abbrev pub posts_standing : Rel → Sum → Reading (Unit {0})
posts_standing rel u = posts_by_terms u.terms rel u

-- a relation as a goal
abbrev pub posts_relation : Comparison → Operand → Operand → Reading (Unit {0})
posts_relation c x y = then (read_relation c x y) (λ w. posts_standing w.rel w.sum)
