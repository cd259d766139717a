-- The load of a goal, which bounds the runs of propagators in it: the constraints that are due, and for each posted constraint the values that its
-- variables lose. (Own.)
use Rattle.std.specs.Prelude.{◌==◌, ℕ, suc, ◌+◌, ◌-◌, Bool, true, false, cond, not, ◌&&◌, ◌||◌, nat_le, List, [], ◌∷◌, length, filter, sum_by, slice_index_or}
use Rattle.std.specs.List.{list_any}
use Rattle.std.specs.Ordering.{is_eq, int_cmp}
use Rattle.pi_constraints.specs.declared.constraint.Constraint.{Constraint}
use Rattle.pi_constraints.specs.declared.constraint.Item.{Item}
use Rattle.pi_constraints.specs.declared.domain.Span.{Span}
use Rattle.pi_constraints.specs.Domain.{size_of}
use Rattle.pi_prop_spec.specs.Places.{places_of}
use Rattle.pi_constraints.specs.State.{State, Variable, free, within, bound}
use Rattle.pi_settling.specs.Roots.{root_item, given}

-- ---- constraints that are due

unfoldable pub same_domain : List Span → List Span → Bool
same_domain [] [] = true
same_domain [] (t ∷ ts) = false
same_domain (s ∷ ss) [] = false
same_domain (s ∷ ss) (t ∷ ts) = is_eq (int_cmp s.lo t.lo) && (is_eq (int_cmp s.hi t.hi) && same_domain ss ts)

-- a variable was unbound, and is bound now or has another domain
abbrev pub is_another : Variable → Variable → Bool
is_another free free = false
is_another free (within e) = true
is_another free (bound u) = true
is_another (within d) free = true
is_another (within d) (within e) = not (same_domain d e)
is_another (within d) (bound u) = true
is_another (bound t) v = false

abbrev pub has_changed : State → State → Item → Bool
has_changed before s (Item.Var n) = is_another (slice_index_or before.variables n free) (slice_index_or s.variables n free)
has_changed before s (Item.Int i) = false

-- a constraint is due that wasn't posted before, or of which a variable, taken through the bindings before, has changed
abbrev pub is_due : State → State → ℕ → Constraint → Bool
is_due before s i c = nat_le (length before.constraints) i || list_any (λ x. has_changed before s (root_item before x)) (places_of c)

-- how many are, from this number on
unfoldable pub count_due : State → State → ℕ → List Constraint → ℕ
count_due before s i [] = 0
count_due before s i (c ∷ cs) = cond (is_due before s i c) 1 0 + count_due before s (suc i) cs

-- ---- values that are lost

abbrev pub same_item : Item → Item → Bool
same_item (Item.Var m) (Item.Var n) = m == n
same_item (Item.Int i) (Item.Int j) = is_eq (int_cmp i j)
same_item (Item.Var m) (Item.Int j) = false
same_item (Item.Int i) (Item.Var n) = false

-- What the variables at these places come to, each once. Two that come to one integer are one too, as two that come to one variable are: what is counted is the values that
-- stand at the places, and there it isn't told which variable led to them.
unfoldable pub roots_of : State → List Item → List Item
roots_of s [] = []
roots_of s (Item.Int i ∷ xs) = roots_of s xs
roots_of s (Item.Var n ∷ xs) = root_item s (Item.Var n) ∷ filter (λ y. not (same_item y (root_item s (Item.Var n)))) (roots_of s xs)

-- how many values an item has in a state
abbrev pub count_values : State → Item → ℕ
count_values s x = size_of (given s (root_item s x))

-- the values that a constraint's variables lose from the first state to the second
abbrev pub count_lost : State → State → Constraint → ℕ
count_lost s r c = sum_by (λ x. count_values s x - count_values r x) (roots_of s (places_of c))

-- the values that they have
abbrev pub count_had : State → Constraint → ℕ
count_had s c = sum_by (count_values s) (roots_of s (places_of c))

-- ---- the load of a goal that began in the first state and left the second: where the third is its stable state, and where there is none

abbrev pub load : State → State → State → ℕ
load before s r = count_due before s 0 s.constraints + sum_by (count_lost s r) s.constraints

abbrev pub load_of_failure : State → State → ℕ
load_of_failure before s = count_due before s 0 s.constraints + sum_by (count_had s) s.constraints
