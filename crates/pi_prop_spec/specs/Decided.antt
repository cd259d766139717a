-- The filter of a constraint as a test: whether it leaves a value at a place, of the domains that the places have. It says what `Leaves` says of domains, one for each
-- place; each test here has the name of the rule that it decides. (Own.)
use Rattle.std.specs.Prelude.{ℕ, zero, suc, ◌==◌, nat_le, Bool, true, false, not, cond, ◌&&◌, ◌||◌, List, [], ◌∷◌, length, slice_get, Option, Some, None, ℤ, pos, neg_ℤ, ◌-ℤ◌, ◌*ℤ◌, int_le}
use Rattle.std.specs.Int.{int_max}
use Rattle.std.specs.List.{list_any}
use Rattle.std.specs.Ordering.{int_eq}
use Rattle.pi_constraints.specs.declared.constraint.Constraint.{Constraint}
use Rattle.pi_constraints.specs.declared.constraint.Item.{Item}
use Rattle.pi_constraints.specs.declared.constraint.Rel.{Rel}
use Rattle.pi_constraints.specs.declared.domain.Span.{Span}
use Rattle.pi_constraints.specs.Domain.{has_value, values_of, common}
use Rattle.pi_prop_spec.specs.Ends.{least_of, greatest_of}
use Rattle.pi_prop_spec.specs.Places.{places_of, domain_at}
use Rattle.pi_prop_spec.specs.Sums.{least_with, negated}
use Rattle.pi_prop_spec.specs.Rules.{lies_within, count_within, width, least_corner, greatest_corner}
use Rattle.pi_prop_spec.specs.Reified.{of_terms}

-- ---- tests of places and domains

-- each number below this one passes
unfoldable pub each_below : ℕ → (ℕ → Bool) → Bool
each_below zero passes = true
each_below (suc k) passes = passes k && each_below k passes

-- some number below it does
unfoldable pub some_below : ℕ → (ℕ → Bool) → Bool
some_below zero passes = false
some_below (suc k) passes = passes k || some_below k passes

-- the second passes where the first does
abbrev pub if_so : Bool → Bool → Bool
if_so a b = cond a b true

abbrev pub is_empty : List Span → Bool
is_empty [] = true
is_empty (s ∷ ss) = false

abbrev pub is_fixed : List Span → Bool
is_fixed d = int_eq (least_of d) (greatest_of d)

abbrev pub is_fixed_to : List Span → ℤ → Bool
is_fixed_to d n = int_eq (least_of d) n && int_eq (greatest_of d) n

-- n lies from a to b
abbrev pub is_inside : ℤ → ℤ → ℤ → Bool
is_inside a b n = int_le a n && int_le n b

abbrev pub is_between : List Span → ℤ → Bool
is_between d n = is_inside (least_of d) (greatest_of d) n

-- ---- sums

abbrev pub at_most_keeps : List (ℤ × ℕ) → ℤ → List (List Span) → ℕ → ℤ → Bool
at_most_keeps terms constant ds k n = int_le (least_with terms constant ds k n) (pos 0)

abbrev pub equal_keeps : List (ℤ × ℕ) → ℤ → List (List Span) → ℕ → ℤ → Bool
equal_keeps terms constant ds k n = at_most_keeps terms constant ds k n && at_most_keeps (negated terms) (neg_ℤ constant) ds k n

abbrev pub are_others_fixed : List (List Span) → ℕ → Bool
are_others_fixed ds k = each_below (length ds) (λ j. j == k || is_fixed (domain_at ds j))

abbrev pub unequal_keeps : List (ℤ × ℕ) → ℤ → List (List Span) → ℕ → ℤ → Bool
unequal_keeps terms constant ds k n = if_so (are_others_fixed ds k) (not (int_eq (least_with terms constant ds k n) (pos 0)))

abbrev pub sum_keeps : Rel → List (ℤ × ℕ) → ℤ → List (List Span) → ℕ → ℤ → Bool
sum_keeps Rel.Equal terms constant ds k n = equal_keeps terms constant ds k n
sum_keeps Rel.Unequal terms constant ds k n = unequal_keeps terms constant ds k n
sum_keeps Rel.AtMost terms constant ds k n = at_most_keeps terms constant ds k n

abbrev pub opposite_keeps : Rel → List (ℤ × ℕ) → ℤ → List (List Span) → ℕ → ℤ → Bool
opposite_keeps Rel.Equal terms constant ds k n = unequal_keeps terms constant ds k n
opposite_keeps Rel.Unequal terms constant ds k n = equal_keeps terms constant ds k n
opposite_keeps Rel.AtMost terms constant ds k n = at_most_keeps (negated terms) (pos 1 -ℤ constant) ds k n

-- ---- Different and Distinct

-- no other place is fixed to n
abbrev pub different_keeps : List (List Span) → ℕ → ℤ → Bool
different_keeps ds k n = each_below (length ds) (λ j. j == k || not (is_fixed_to (domain_at ds j) n))

-- an interval has room for the places within it, and where they fill it n isn't one of its numbers, unless the place is one of them
abbrev pub interval_keeps : ℤ → ℤ → List (List Span) → ℕ → ℤ → Bool
interval_keeps a b ds k n =
    int_le (pos (count_within a b ds)) (width a b) && if_so (int_eq (pos (count_within a b ds)) (width a b)) (lies_within a b (domain_at ds k) || not (is_inside a b n))

-- from the least value of a place to the greatest of one
abbrev pub ends_keep : List Span → List Span → List (List Span) → ℕ → ℤ → Bool
ends_keep d e ds k n = if_so (int_le (least_of d) (greatest_of e)) (interval_keeps (least_of d) (greatest_of e) ds k n)

-- no other intervals have to be looked at
abbrev pub intervals_keep : List (List Span) → ℕ → ℤ → Bool
intervals_keep ds k n = each_below (length ds) (λ i. each_below (length ds) (λ j. ends_keep (domain_at ds i) (domain_at ds j) ds k n))

abbrev pub distinct_keeps : List (List Span) → ℕ → ℤ → Bool
distinct_keeps ds k n = different_keeps ds k n && intervals_keep ds k n

-- ---- Element, with so many items: the index is at place 0, item i at place i, and the value after them

abbrev pub share_a_value : List Span → List Span → Bool
share_a_value d e = not (is_empty (common d e))

-- n is the number of an item that shares a value with the value
abbrev pub index_keeps : ℕ → List (List Span) → ℤ → Bool
index_keeps count ds n = some_below count (λ i. int_eq n (pos (suc i)) && share_a_value (domain_at ds (suc i)) (domain_at ds (suc count)))

-- n is a value of some item whose number the index has
abbrev pub value_keeps : ℕ → List (List Span) → ℤ → Bool
value_keeps count ds n = some_below count (λ i. has_value (domain_at ds 0) (pos (suc i)) && has_value (domain_at ds (suc i)) n)

abbrev pub element_keeps : ℕ → List (List Span) → ℕ → ℤ → Bool
element_keeps count ds k n =
    cond (k == 0) (index_keeps count ds n)
    (cond (k == suc count) (value_keeps count ds n)
    (if_so (nat_le k count && is_fixed_to (domain_at ds 0) (pos k)) (has_value (domain_at ds (suc count)) n)))

-- ---- Product: the product is at place 0, and its factors are at 1 and 2

-- where the other factor has one value and that isn't 0, its product with n lies between the ends of the product
abbrev pub factor_keeps : List Span → List Span → ℤ → Bool
factor_keeps product other n = if_so (is_fixed other && not (int_eq (least_of other) (pos 0))) (is_between product (least_of other *ℤ n))

abbrev pub product_keeps : List (List Span) → ℕ → ℤ → Bool
product_keeps ds k n =
    cond (k == 0) (is_inside (least_corner (domain_at ds 1) (domain_at ds 2)) (greatest_corner (domain_at ds 1) (domain_at ds 2)) n)
    (cond (k == 1) (factor_keeps (domain_at ds 0) (domain_at ds 2) n)
    (if_so (k == 2) (factor_keeps (domain_at ds 0) (domain_at ds 1) n)))

-- ---- Absolute: the absolute value is at place 0, and its operand at 1

-- the least absolute value of the numbers between the ends: that of the nearer end to 0, and 0 where it lies between them
abbrev pub least_magnitude : List Span → ℤ
least_magnitude d = int_max (int_max (least_of d) (neg_ℤ (greatest_of d))) (pos 0)

abbrev pub greatest_magnitude : List Span → ℤ
greatest_magnitude d = int_max (neg_ℤ (least_of d)) (greatest_of d)

abbrev pub absolute_keeps : List (List Span) → ℕ → ℤ → Bool
absolute_keeps ds k n =
    cond (k == 0) (is_inside (least_magnitude (domain_at ds 1)) (greatest_magnitude (domain_at ds 1)) n)
    (if_so (k == 1) (is_inside (neg_ℤ (greatest_of (domain_at ds 0))) (greatest_of (domain_at ds 0)) n))

-- ---- a reified sum: the truth is at place 0, and the terms at 1, 2 and so on

-- a filter leaves each place a value
abbrev pub leaves_values : (ℕ → ℤ → Bool) → List (List Span) → Bool
leaves_values keeps ds = each_below (length ds) (λ k. list_any (keeps k) (values_of (domain_at ds k)))

-- the truth keeps 1 where the sum leaves each term a value, and 0 where its opposite does
abbrev pub truth_keeps : Rel → List (ℤ × ℕ) → ℤ → List (List Span) → ℤ → Bool
truth_keeps rel terms constant ds n =
    (int_eq n (pos 1) && leaves_values (sum_keeps rel terms constant (of_terms ds)) (of_terms ds))
    || (int_eq n (pos 0) && leaves_values (opposite_keeps rel terms constant (of_terms ds)) (of_terms ds))

abbrev pub reified_keeps : Rel → List (ℤ × ℕ) → ℤ → List (List Span) → ℕ → ℤ → Bool
reified_keeps rel terms constant ds zero n = truth_keeps rel terms constant ds n
reified_keeps rel terms constant ds (suc j) n =
    cond (is_fixed_to (domain_at ds 0) (pos 1)) (sum_keeps rel terms constant (of_terms ds) j n)
    (if_so (is_fixed_to (domain_at ds 0) (pos 0)) (opposite_keeps rel terms constant (of_terms ds) j n))

-- ---- all kinds

abbrev pub rule_keeps : Constraint → List (List Span) → ℕ → ℤ → Bool
rule_keeps (Constraint.Linear rel terms constant) ds k n = sum_keeps rel terms constant ds k n
rule_keeps (Constraint.Product z x y) ds k n = product_keeps ds k n
rule_keeps (Constraint.Absolute z x) ds k n = absolute_keeps ds k n
rule_keeps (Constraint.Different items) ds k n = different_keeps ds k n
rule_keeps (Constraint.Element index items value) ds k n = element_keeps (length items) ds k n
rule_keeps (Constraint.Reified truth rel terms constant) ds k n = reified_keeps rel terms constant ds k n
rule_keeps (Constraint.Distinct items) ds k n = distinct_keeps ds k n

abbrev pub have_values : List (List Span) → Bool
have_values ds = each_below (length ds) (λ k. not (is_empty (domain_at ds k)))

abbrev pub place_keeps : Constraint → List (List Span) → ℕ → ℤ → Bool
place_keeps c ds k n = have_values ds && (has_value (domain_at ds k) n && rule_keeps c ds k n)

abbrev pub same_variable : Option Item → Option Item → Bool
same_variable (Some (Item.Var m)) (Some (Item.Var n)) = m == n
same_variable (Some (Item.Var m)) (Some (Item.Int j)) = false
same_variable (Some (Item.Var m)) None = false
same_variable (Some (Item.Int i)) y = false
same_variable None y = false

abbrev pub have_one_variable : List Item → ℕ → ℕ → Bool
have_one_variable items j k = j == k || same_variable (slice_get items j) (slice_get items k)

-- whether the filter leaves n at place k: the places of one variable take what they all keep
unfoldable pub leaves : Constraint → List (List Span) → ℕ → ℤ → Bool
leaves c ds k n = each_below (length (places_of c)) (λ j. if_so (have_one_variable (places_of c) j k) (place_keeps c ds j n))
