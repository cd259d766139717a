-- Boolean expressions: each is given a truth item, which is 1 where it is so and 0 where it isn't, inner ones first and left before right. (A User's Guide to Picat, 'Constraints'; what is
-- posted is own.)
use Rattle.std.specs.Prelude.{ℕ, zero, suc, Bool, true, false, List, [], ◌∷◌, ℤ, pos, negsuc}
use Rattle.pi_terms.specs.Tree.{int}
use Rattle.pi_constraints.specs.declared.constraint.Rel.{Rel}
use Rattle.pi_constraints.specs.declared.constraint.Item.{Item}
use Rattle.pi_constraints.specs.declared.constraint.Constraint.{Constraint}
use Rattle.pi_prop_spec.specs.Operands.{Boolean, truth_variable, truth_number, relation, negation, joined, no_boolean, Connective, and, or, either, implies, equivalent}
use Rattle.pi_prop_spec.specs.PostingSums.{Sum, of_number, of_variable, of_item, added, difference}
use Rattle.pi_prop_spec.specs.Steps.{Reading, gives, refuses, then, new_variable, posting, linear, not_a_constraint}
use Rattle.pi_prop_spec.specs.Relations.{read_relation, stands, posts_standing}

-- a sum that is at most 0
abbrev pub posting_at_most : {A : Type 0} → Sum → Reading A → Reading A
posting_at_most u r = posting (linear Rel.AtMost u) r

-- a truth variable V: V - 1 <= 0 and -V <= 0
abbrev pub truth_variable_is : ℕ → Reading Item
truth_variable_is n =
    posting_at_most (difference (of_variable n) (of_number (pos 1)))
    (posting_at_most (difference (of_number (pos 0)) (of_variable n))
    (gives (Item.Var n)))

-- a new truth variable
abbrev pub new_truth : Reading Item
new_truth = then new_variable truth_variable_is

-- an integer is its own truth where it is 0 or 1
abbrev pub truth_number_is : ℤ → Reading Item
truth_number_is (pos zero) = gives (Item.Int (pos 0))
truth_number_is (pos (suc zero)) = gives (Item.Int (pos 1))
truth_number_is (pos (suc (suc n))) = refuses (not_a_constraint (int (pos (suc (suc n)))))
truth_number_is (negsuc n) = refuses (not_a_constraint (int (negsuc n)))

abbrev pub bit : Bool → ℤ
bit false = pos 0
bit true = pos 1

-- whether a sum stands so to 0: known where it has no terms; else a new truth of a reified sum
abbrev pub truth_by_terms : List (ℤ × ℕ) → Rel → Sum → Reading Item
truth_by_terms [] rel u = gives (Item.Int (bit (stands rel u.constant)))
truth_by_terms (t ∷ ts) rel u = then new_truth (λ x. posting (Constraint.Reified x rel u.terms u.constant) (gives x))

abbrev pub truth_of_standing : Rel → Sum → Reading Item
truth_of_standing rel u = truth_by_terms u.terms rel u

-- #~ X: T + X - 1 = 0
abbrev pub truth_of_negation : Item → Reading Item
truth_of_negation x = then new_truth (λ t. posting (linear Rel.Equal (difference (added (of_item t) (of_item x)) (of_number (pos 1)))) (gives t))

-- two that are joined
abbrev pub truth_of_joined : Connective → Item → Item → Reading Item
-- X #/\ Y: T - X <= 0, T - Y <= 0, X + Y - T - 1 <= 0
truth_of_joined and x y = then new_truth (λ t.
    posting_at_most (difference (of_item t) (of_item x))
    (posting_at_most (difference (of_item t) (of_item y))
    (posting_at_most (difference (difference (added (of_item x) (of_item y)) (of_item t)) (of_number (pos 1)))
    (gives t))))
-- X #\/ Y: X - T <= 0, Y - T <= 0, T - X - Y <= 0
truth_of_joined or x y = then new_truth (λ t.
    posting_at_most (difference (of_item x) (of_item t))
    (posting_at_most (difference (of_item y) (of_item t))
    (posting_at_most (difference (difference (of_item t) (of_item x)) (of_item y))
    (gives t))))
-- X #^ Y: whether X - Y is unequal 0
truth_of_joined either x y = truth_of_standing Rel.Unequal (difference (of_item x) (of_item y))
-- X #=> Y: 1 - X - T <= 0, Y - T <= 0, T + X - Y - 1 <= 0
truth_of_joined implies x y = then new_truth (λ t.
    posting_at_most (difference (difference (of_number (pos 1)) (of_item x)) (of_item t))
    (posting_at_most (difference (of_item y) (of_item t))
    (posting_at_most (difference (difference (added (of_item t) (of_item x)) (of_item y)) (of_number (pos 1)))
    (gives t))))
-- X #<=> Y: whether X - Y = 0
truth_of_joined equivalent x y = truth_of_standing Rel.Equal (difference (of_item x) (of_item y))

unfoldable pub read_truth : Boolean → Reading Item
read_truth (truth_variable n) = truth_variable_is n
read_truth (truth_number i) = truth_number_is i
read_truth (relation c x y) = then (read_relation c x y) (λ w. truth_of_standing w.rel w.sum)
read_truth (negation b) = then (read_truth b) truth_of_negation
read_truth (joined k b c) = then (read_truth b) (λ x. then (read_truth c) (λ y. truth_of_joined k x y))
read_truth (no_boolean t) = refuses (not_a_constraint t)

-- a Boolean expression as a goal: T - 1 = 0, with T its truth
abbrev pub posts_truth : Boolean → Reading (Unit {0})
posts_truth b = then (read_truth b) (λ t. posts_standing Rel.Equal (difference (of_item t) (of_number (pos 1))))
