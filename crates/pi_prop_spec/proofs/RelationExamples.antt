-- Relations, `all_different` and `element`, worked through the definitions.
use Rattle.std.specs.Prelude.{◌≡◌, pos, negsuc, [], ◌∷◌, Result, Ok, Err, codes, refl}
use Rattle.pi_terms.specs.Tree.{Tree, var, int, atom, comp, trees_of, cells}
use Rattle.pi_constraints.specs.Value.{value, rounds}
use Rattle.pi_constraints.specs.State.{followed_for, followed}
use Rattle.pi_effects.specs.Items.{each_tree, list_onto, list_of, array_of, items_for, list_items}
use Rattle.pi_constraints.specs.declared.constraint.Item.{Item}
use Rattle.pi_constraints.specs.declared.constraint.Rel.{Rel}
use Rattle.pi_constraints.specs.declared.constraint.Constraint.{Constraint}
use Rattle.pi_prop_spec.specs.Terms.{operand_of, operands_of, operands_of_array, operands_of_list, comparison_named, connective_named, boolean_of, goal_of}
use Rattle.pi_prop_spec.specs.PostingSums.{with_term, with_terms, scaled_terms}
use Rattle.pi_prop_spec.specs.Steps.{Refusal, not_a_constraint, have_128_bits, read_operand, read_items}
use Rattle.pi_prop_spec.specs.Relations.{read_relation}
use Rattle.pi_prop_spec.specs.Lists.{read_each}
use Rattle.pi_prop_spec.specs.Limits.{are_narrow, are_values, first_refusal}
use Rattle.pi_prop_spec.specs.Postings.{Posting, posting_of}
use Rattle.pi_prop_spec.proofs.Worked.{one, two, n, plus, minus, times, negative, absolute, sum, term, at_most, equal, posts}

-- what a term comes to, where four variables were made
comes_to : Tree → Result Posting Refusal → Type 0
unfolding operand_of operands_of operands_of_array operands_of_list comparison_named connective_named boolean_of goal_of with_term with_terms scaled_terms have_128_bits read_operand read_items read_relation read_each are_narrow are_values first_refusal each_tree list_onto items_for list_items value rounds followed followed_for cells
comes_to t r = posting_of 4 (goal_of t) ≡ r

-- X + Y #= 4, and 2*X #= Y
sums : comes_to (two (codes "#=") (plus (var 0) (var 1)) (n 4)) (Ok (posts 0 (equal (term (pos 1) 0 ∷ term (pos 1) 1 ∷ []) (negsuc 3) ∷ [])))
    × comes_to (two (codes "#=") (times (n 2) (var 0)) (var 1)) (Ok (posts 0 (equal (term (pos 2) 0 ∷ term (negsuc 0) 1 ∷ []) (pos 0) ∷ [])))
unfolding comes_to
sums = (refl, refl)

-- terms ascend by variable, equal ones are joined: Y + X - 3*Y #=< 7
joined : comes_to (two (codes "#=<") (minus (plus (var 1) (var 0)) (times (n 3) (var 1))) (n 7)) (Ok (posts 0 (at_most (term (pos 1) 0 ∷ term (negsuc 1) 1 ∷ []) (negsuc 6) ∷ [])))
unfolding comes_to
joined = refl

-- each sign: X - Y + 1 <= 0, X - Y <= 0 (twice), Y - X + 1 <= 0, Y - X <= 0, X - Y unequal 0
signs : comes_to (two (codes "#<") (var 0) (var 1)) (Ok (posts 0 (at_most (term (pos 1) 0 ∷ term (negsuc 0) 1 ∷ []) (pos 1) ∷ [])))
    × comes_to (two (codes "#=<") (var 0) (var 1)) (Ok (posts 0 (at_most (term (pos 1) 0 ∷ term (negsuc 0) 1 ∷ []) (pos 0) ∷ [])))
    × comes_to (two (codes "#<=") (var 0) (var 1)) (Ok (posts 0 (at_most (term (pos 1) 0 ∷ term (negsuc 0) 1 ∷ []) (pos 0) ∷ [])))
    × comes_to (two (codes "#>") (var 0) (var 1)) (Ok (posts 0 (at_most (term (negsuc 0) 0 ∷ term (pos 1) 1 ∷ []) (pos 1) ∷ [])))
    × comes_to (two (codes "#>=") (var 0) (var 1)) (Ok (posts 0 (at_most (term (negsuc 0) 0 ∷ term (pos 1) 1 ∷ []) (pos 0) ∷ [])))
    × comes_to (two (codes "#!=") (var 0) (var 1)) (Ok (posts 0 (Constraint.Linear Rel.Unequal (term (pos 1) 0 ∷ term (negsuc 0) 1 ∷ []) (pos 0) ∷ [])))
unfolding comes_to
signs = (refl, refl, refl, refl, refl, refl)

-- -X #> -4
negatives : comes_to (two (codes "#>") (negative (var 0)) (int (negsuc 3))) (Ok (posts 0 (at_most (term (pos 1) 0 ∷ []) (negsuc 2) ∷ [])))
unfolding comes_to
negatives = refl

-- all terms cancel: 1 #= 2 is never so, and X - X #= 0 and 3 #> 2 post nothing
cancelled : comes_to (two (codes "#=") (n 1) (n 2)) (Ok (posts 1 (at_most (term (pos 1) 4 ∷ []) (pos 0) ∷ at_most (term (negsuc 0) 4 ∷ []) (pos 1) ∷ [])))
    × comes_to (two (codes "#=") (minus (var 0) (var 0)) (n 0)) (Ok (posts 0 []))
    × comes_to (two (codes "#>") (n 3) (n 2)) (Ok (posts 0 []))
unfolding comes_to
cancelled = (refl, refl, refl)

-- X*Y #= 6: a new variable is the product
products : comes_to (two (codes "#=") (times (var 0) (var 1)) (n 6)) (Ok (posts 1 (Constraint.Product (Item.Var 4) (Item.Var 0) (Item.Var 1) ∷ equal (term (pos 1) 4 ∷ []) (negsuc 5) ∷ [])))
unfolding comes_to
products = refl

-- (X*Y)*(2*X + 1) #= Z: the product inside is made before the right side's variable, and then the outer one
inner-first : comes_to (two (codes "#=") (times (times (var 0) (var 1)) (plus (times (n 2) (var 0)) (n 1))) (var 2))
    (Ok (posts 3
    (Constraint.Product (Item.Var 4) (Item.Var 0) (Item.Var 1) ∷
    equal (term (negsuc 1) 0 ∷ term (pos 1) 5 ∷ []) (negsuc 0) ∷
    Constraint.Product (Item.Var 6) (Item.Var 4) (Item.Var 5) ∷
    equal (term (negsuc 0) 2 ∷ term (pos 1) 6 ∷ []) (pos 0) ∷ [])))
unfolding comes_to
inner-first = refl

-- the sides' variables come behind those inside both sides: (X + 1)*(Y*Y + 1) #= 0
sides-behind : comes_to (two (codes "#=") (times (plus (var 0) (n 1)) (plus (times (var 1) (var 1)) (n 1))) (n 0))
    (Ok (posts 4
    (Constraint.Product (Item.Var 4) (Item.Var 1) (Item.Var 1) ∷
    equal (term (negsuc 0) 0 ∷ term (pos 1) 5 ∷ []) (negsuc 0) ∷
    equal (term (negsuc 0) 4 ∷ term (pos 1) 6 ∷ []) (negsuc 0) ∷
    Constraint.Product (Item.Var 7) (Item.Var 5) (Item.Var 6) ∷
    equal (term (pos 1) 7 ∷ []) (pos 0) ∷ [])))
unfolding comes_to
sides-behind = refl

-- a constant side scales the other, whichever it is, also one that cancels to it: X*(Y - Y + 3) #= 0, and X*0 is 0
constant-sides : comes_to (two (codes "#=") (times (var 0) (plus (minus (var 1) (var 1)) (n 3))) (n 0)) (Ok (posts 0 (equal (term (pos 3) 0 ∷ []) (pos 0) ∷ [])))
    × comes_to (two (codes "#=") (times (var 0) (n 0)) (n 0)) (Ok (posts 0 []))
unfolding comes_to
constant-sides = (refl, refl)

-- abs(X - Y) #!= 2, abs(X) #= 1 and abs(-3) #= 3
absolutes : comes_to (two (codes "#!=") (absolute (minus (var 0) (var 1))) (n 2))
    (Ok (posts 2
    (equal (term (negsuc 0) 0 ∷ term (pos 1) 1 ∷ term (pos 1) 4 ∷ []) (pos 0) ∷
    Constraint.Absolute (Item.Var 5) (Item.Var 4) ∷
    Constraint.Linear Rel.Unequal (term (pos 1) 5 ∷ []) (negsuc 1) ∷ [])))
    × comes_to (two (codes "#=") (absolute (var 0)) (n 1)) (Ok (posts 1 (Constraint.Absolute (Item.Var 4) (Item.Var 0) ∷ equal (term (pos 1) 4 ∷ []) (negsuc 0) ∷ [])))
    × comes_to (two (codes "#=") (absolute (int (negsuc 2))) (n 3)) (Ok (posts 0 []))
unfolding comes_to
absolutes = (refl, refl, refl)

-- sum([X, X+1, 3]) #= 8, sum({}) #= 0, sum([X|Y]) and sum(a)
totals : comes_to (two (codes "#=") (sum (var 0 ∷ plus (var 0) (n 1) ∷ n 3 ∷ [])) (n 8)) (Ok (posts 0 (equal (term (pos 2) 0 ∷ []) (negsuc 3) ∷ [])))
    × comes_to (two (codes "#=") (one (codes "sum") (array_of [])) (n 0)) (Ok (posts 0 []))
    × comes_to (two (codes "#=") (one (codes "sum") (list_onto (var 0 ∷ []) (var 1))) (n 8)) (Err (not_a_constraint (list_onto (var 0 ∷ []) (var 1))))
    × comes_to (two (codes "#=") (one (codes "sum") (atom (codes "a"))) (n 8)) (Err (not_a_constraint (atom (codes "a"))))
unfolding comes_to
totals = (refl, refl, refl, refl)

-- the first wrong term from the left, inner before outer: X #= a, a #= b, X + f(a) #> b, and X #= [3]; a constraint that is none is the wrong term itself
wrong-terms : comes_to (two (codes "#=") (var 0) (atom (codes "a"))) (Err (not_a_constraint (atom (codes "a"))))
    × comes_to (two (codes "#=") (atom (codes "a")) (atom (codes "b"))) (Err (not_a_constraint (atom (codes "a"))))
    × comes_to (two (codes "#>") (plus (var 0) (one (codes "f") (atom (codes "a")))) (atom (codes "b"))) (Err (not_a_constraint (one (codes "f") (atom (codes "a")))))
    × comes_to (two (codes "#=") (var 0) (list_of (n 3 ∷ []))) (Err (not_a_constraint (list_of (n 3 ∷ []))))
    × comes_to (atom (codes "a")) (Err (not_a_constraint (atom (codes "a"))))
unfolding comes_to
wrong-terms = (refl, refl, refl, refl, refl)

-- all_different([X,3,Y]), all_distinct({X,Y}), all_different([X,b]) and all_different(X)
different : comes_to (one (codes "all_different") (list_of (var 0 ∷ n 3 ∷ var 1 ∷ []))) (Ok (posts 0 (Constraint.Different (Item.Var 0 ∷ Item.Int (pos 3) ∷ Item.Var 1 ∷ []) ∷ [])))
    × comes_to (one (codes "all_distinct") (array_of (var 0 ∷ var 1 ∷ []))) (Ok (posts 0 (Constraint.Distinct (Item.Var 0 ∷ Item.Var 1 ∷ []) ∷ [])))
    × comes_to (one (codes "all_different") (list_of (var 0 ∷ atom (codes "b") ∷ []))) (Err (not_a_constraint (atom (codes "b"))))
    × comes_to (one (codes "all_different") (var 0)) (Err (not_a_constraint (var 0)))
unfolding comes_to
different = (refl, refl, refl, refl)

element-of : Tree → Tree → Tree → Tree
element-of i l v = comp (codes "element") (trees_of (i ∷ l ∷ v ∷ []))

-- element(I,[4,X],V), and its terms judged in the order I, L, V, items
elements : comes_to (element-of (var 0) (list_of (n 4 ∷ var 1 ∷ [])) (var 2)) (Ok (posts 0 (Constraint.Element (Item.Var 0) (Item.Int (pos 4) ∷ Item.Var 1 ∷ []) (Item.Var 2) ∷ [])))
    × comes_to (element-of (atom (codes "a")) (atom (codes "b")) (atom (codes "c"))) (Err (not_a_constraint (atom (codes "a"))))
    × comes_to (element-of (var 0) (atom (codes "b")) (atom (codes "c"))) (Err (not_a_constraint (atom (codes "b"))))
    × comes_to (element-of (var 0) (list_of (atom (codes "d") ∷ [])) (atom (codes "c"))) (Err (not_a_constraint (atom (codes "c"))))
    × comes_to (element-of (var 0) (list_of (atom (codes "d") ∷ atom (codes "e") ∷ [])) (var 1)) (Err (not_a_constraint (atom (codes "d"))))
unfolding comes_to element-of
elements = (refl, refl, refl, refl, refl)
