-- Steps and limits, worked through the definitions.
use Rattle.std.specs.Prelude.{◌≡◌, ℕ, ◌^◌, ◌+◌, ◌-◌, true, false, pos, negsuc, neg_ℤ, List, [], ◌∷◌, Result, Ok, Err, Some, None, codes, refl}
use Rattle.std.specs.Option.{option_or}
use Rattle.pi_terms.specs.Tree.{Tree, var, int, atom, cells}
use Rattle.pi_constraints.specs.Value.{value, rounds}
use Rattle.pi_constraints.specs.State.{followed_for, followed}
use Rattle.pi_effects.specs.Items.{each_tree, list_onto, list_of, items_for, list_items}
use Rattle.pi_constraints.specs.declared.constraint.Item.{Item}
use Rattle.pi_constraints.specs.declared.constraint.Constraint.{Constraint}
use Rattle.pi_prop_spec.specs.Terms.{operand_of, operands_of, operands_of_array, operands_of_list, comparison_named, connective_named, boolean_of, goal_of}
use Rattle.pi_prop_spec.specs.PostingSums.{with_term, with_terms, scaled_terms}
use Rattle.pi_prop_spec.specs.Steps.{Refusal, not_a_constraint, too_many_terms, wide_coefficient, have_128_bits, read_operand, read_items}
use Rattle.pi_prop_spec.specs.Relations.{read_relation}
use Rattle.pi_prop_spec.specs.Lists.{read_each}
use Rattle.pi_prop_spec.specs.Limits.{are_narrow, are_values, refusal_by, refusal_of, first_refusal}
use Rattle.pi_prop_spec.specs.Postings.{Posting, posting_of}
use Rattle.pi_prop_spec.proofs.Worked.{one, two, n, plus, minus, times, negative, absolute, sum, term, at_most, equal, posts}

comes_to : Tree → Result Posting Refusal → Type 0
unfolding operand_of operands_of operands_of_array operands_of_list comparison_named connective_named boolean_of goal_of with_term with_terms scaled_terms have_128_bits read_operand read_items read_relation read_each are_narrow are_values first_refusal each_tree list_onto items_for list_items value rounds followed followed_for cells
comes_to t r = posting_of 2 (goal_of t) ≡ r

abbrev is_wide : Tree → Type 0
is_wide t = comes_to t (Err wide_coefficient)

-- 2^127 - 1, the greatest integer, and -2^127, the least
abbrev most : Tree
most = n (2 ^ 127 - 1)

abbrev least : Tree
least = int (neg_ℤ (pos (2 ^ 127)))

-- what is posted of what is never so: N <= 0 and 1 - N <= 0
abbrev never : ℕ → List Constraint
never k = at_most (term (pos 1) k ∷ []) (pos 0) ∷ at_most (term (negsuc 0) k ∷ []) (pos 1) ∷ []

-- A finished coefficient has at most 2^40 and a constant at most 2^100, in absolute value.
finished : comes_to (two (codes "#=") (times (n (2 ^ 40)) (var 0)) (n (2 ^ 100))) (Ok (posts 0 (equal (term (pos (2 ^ 40)) 0 ∷ []) (neg_ℤ (pos (2 ^ 100))) ∷ [])))
    × is_wide (two (codes "#=") (times (n (2 ^ 40 + 1)) (var 0)) (n 0))
    × is_wide (two (codes "#=") (var 0) (n (2 ^ 100 + 1)))
unfolding comes_to
finished = (refl, refl, refl)

-- What cancels before a constraint is finished may be wider: 2^50*X - 2^50*X + X #= 0, and 2^101 #= 2^101. So may a constant that is compared: 2^101 #< 3 is never so, and it posts what is never so.
cancelled : comes_to (two (codes "#=") (plus (minus (times (n (2 ^ 50)) (var 0)) (times (n (2 ^ 50)) (var 0))) (var 0)) (n 0)) (Ok (posts 0 (equal (term (pos 1) 0 ∷ []) (pos 0) ∷ [])))
    × comes_to (two (codes "#=") (n (2 ^ 101)) (n (2 ^ 101))) (Ok (posts 0 []))
    × comes_to (two (codes "#<") (n (2 ^ 101)) (n 3)) (Ok (posts 1 (never 2)))
unfolding comes_to
cancelled = (refl, refl, refl)

-- A step stays within 128 bits: 2^127 - 1 + 1, though 1 is taken away behind it; -(-2^127); abs(-2^127); 2^127 - 1 without -1 as the difference of a relation, and the same of `#>=` with the sides exchanged.
steps : is_wide (two (codes "#=") (minus (plus most (n 1)) (n 1)) (var 0))
    × is_wide (two (codes "#=") (negative least) (var 0))
    × is_wide (two (codes "#=") (absolute least) (var 0))
    × is_wide (two (codes "#=") most (int (negsuc 0)))
    × is_wide (two (codes "#>=") (int (negsuc 0)) most)
    × comes_to (two (codes "#=<") (int (negsuc 0)) most) (Ok (posts 0 []))
unfolding comes_to
steps = (refl, refl, refl, refl, refl, refl)

-- Each item of a `sum` that is added is one, from the left.
items-added : is_wide (two (codes "#=") (sum (most ∷ n 1 ∷ int (negsuc 0) ∷ [])) (var 0))
    × comes_to (two (codes "#=") (sum (most ∷ int (negsuc 0) ∷ n 1 ∷ [])) most) (Ok (posts 0 []))
unfolding comes_to
items-added = (refl, refl)

-- What is added to a difference behind it is no step: 2^127 - 1 #< 0 is never so.
no-step : comes_to (two (codes "#<") most (n 0)) (Ok (posts 1 (never 2)))
unfolding comes_to
no-step = refl

-- The first refusal of a step or an operand counts, from the left and inner before outer, and comes before all limits: a wide step before a wrong term behind it, a wrong term before a wide step behind it, and a wrong
-- term before a constraint that is too wide, though that was made before it.
order : is_wide (two (codes "#=") (plus most (n 1)) (atom (codes "a")))
    × comes_to (two (codes "#=") (atom (codes "a")) (plus most (n 1))) (Err (not_a_constraint (atom (codes "a"))))
    × comes_to (two (codes "#=") (absolute (times (n (2 ^ 41)) (var 0))) (atom (codes "a"))) (Err (not_a_constraint (atom (codes "a"))))
    × is_wide (two (codes "#=") (absolute (times (n (2 ^ 41)) (var 0))) (n 1))
unfolding comes_to
order = (refl, refl, refl, refl)

-- Integer items lie within the bounds of domains; a wrong item behind a wide one comes first.
items : comes_to (one (codes "all_different") (list_of (n (2 ^ 56 - 1) ∷ []))) (Ok (posts 0 (Constraint.Different (Item.Int (pos (2 ^ 56 - 1)) ∷ []) ∷ [])))
    × is_wide (one (codes "all_different") (list_of (n (2 ^ 56) ∷ [])))
    × comes_to (one (codes "all_distinct") (list_of (n (2 ^ 56) ∷ atom (codes "a") ∷ []))) (Err (not_a_constraint (atom (codes "a"))))
unfolding comes_to
items = (refl, refl, refl)

-- As many terms as a constraint has at most, and one more; the number of terms comes before their coefficients.
counts : (refusal_by 1048576 true ≡ None) × (refusal_by 1048577 true ≡ Some too_many_terms) × (refusal_by 1048577 false ≡ Some too_many_terms) × (refusal_by 1048576 false ≡ Some wide_coefficient)
counts = (refl, refl, refl, refl)

-- Of the finished constraints the first that is refused counts, and those behind it don't.
first-counts : (c : Constraint) (cs : List Constraint) (r : Refusal) → refusal_of c ≡ Some r → first_refusal (c ∷ cs) ≡ Some r
unfolding first_refusal
first-counts c cs r e = (λ i. option_or (e i) (first_refusal cs))
