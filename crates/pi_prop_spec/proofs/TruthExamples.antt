-- Boolean constraints, worked through the definitions.
use Rattle.std.specs.Prelude.{◌≡◌, ℕ, pos, negsuc, List, [], ◌∷◌, Result, Ok, Err, codes, refl}
use Rattle.pi_terms.specs.Tree.{Tree, var, atom}
use Rattle.pi_constraints.specs.declared.constraint.Item.{Item}
use Rattle.pi_constraints.specs.declared.constraint.Rel.{Rel}
use Rattle.pi_constraints.specs.declared.constraint.Constraint.{Constraint}
use Rattle.pi_prop_spec.specs.Terms.{operand_of, operands_of, operands_of_array, operands_of_list, comparison_named, connective_named, boolean_of, goal_of}
use Rattle.pi_prop_spec.specs.PostingSums.{with_term, with_terms, scaled_terms}
use Rattle.pi_prop_spec.specs.Steps.{Refusal, not_a_constraint, have_128_bits, read_operand, read_items}
use Rattle.pi_prop_spec.specs.Relations.{read_relation}
use Rattle.pi_prop_spec.specs.Truths.{read_truth}
use Rattle.pi_prop_spec.specs.Limits.{are_narrow, are_values, first_refusal}
use Rattle.pi_prop_spec.specs.Postings.{Posting, posting_of}
use Rattle.pi_prop_spec.proofs.Worked.{one, two, n, term, at_most, equal, posts}

comes_to : Tree → Result Posting Refusal → Type 0
unfolding operand_of operands_of operands_of_array operands_of_list comparison_named connective_named boolean_of goal_of with_term with_terms scaled_terms have_128_bits read_operand read_items read_relation read_truth are_narrow are_values first_refusal
comes_to t r = posting_of 2 (goal_of t) ≡ r

-- V - 1 <= 0 and -V <= 0, in front of others
abbrev truth : ℕ → List Constraint → List Constraint
truth v cs = at_most (term (pos 1) v ∷ []) (negsuc 0) ∷ at_most (term (negsuc 0) v ∷ []) (pos 0) ∷ cs

-- T - 1 = 0
abbrev is_so : ℕ → List Constraint
is_so t = equal (term (pos 1) t ∷ []) (negsuc 0) ∷ []

-- B #<=> X #> 3: the relation is that 4 - X <= 0
reified : comes_to (two (codes "#<=>") (var 0) (two (codes "#>") (var 1) (n 3)))
    (Ok (posts 2
    (truth 0
    (truth 2 (Constraint.Reified (Item.Var 2) Rel.AtMost (term (negsuc 0) 1 ∷ []) (pos 4) ∷
    (truth 3 (Constraint.Reified (Item.Var 3) Rel.Equal (term (pos 1) 0 ∷ term (negsuc 0) 2 ∷ []) (pos 0) ∷
    is_so 3)))))))
unfolding comes_to
reified = refl

-- A #\/ B, A #/\ B, A #=> B, A #^ B and #~ A
connectives : comes_to (two (codes "#\\/") (var 0) (var 1))
    (Ok (posts 1 (truth 0 (truth 1 (truth 2
    (at_most (term (pos 1) 0 ∷ term (negsuc 0) 2 ∷ []) (pos 0) ∷
    at_most (term (pos 1) 1 ∷ term (negsuc 0) 2 ∷ []) (pos 0) ∷
    at_most (term (negsuc 0) 0 ∷ term (negsuc 0) 1 ∷ term (pos 1) 2 ∷ []) (pos 0) ∷
    is_so 2))))))
    × comes_to (two (codes "#/\\") (var 0) (var 1))
    (Ok (posts 1 (truth 0 (truth 1 (truth 2
    (at_most (term (negsuc 0) 0 ∷ term (pos 1) 2 ∷ []) (pos 0) ∷
    at_most (term (negsuc 0) 1 ∷ term (pos 1) 2 ∷ []) (pos 0) ∷
    at_most (term (pos 1) 0 ∷ term (pos 1) 1 ∷ term (negsuc 0) 2 ∷ []) (negsuc 0) ∷
    is_so 2))))))
    × comes_to (two (codes "#=>") (var 0) (var 1))
    (Ok (posts 1 (truth 0 (truth 1 (truth 2
    (at_most (term (negsuc 0) 0 ∷ term (negsuc 0) 2 ∷ []) (pos 1) ∷
    at_most (term (pos 1) 1 ∷ term (negsuc 0) 2 ∷ []) (pos 0) ∷
    at_most (term (pos 1) 0 ∷ term (negsuc 0) 1 ∷ term (pos 1) 2 ∷ []) (negsuc 0) ∷
    is_so 2))))))
    × comes_to (two (codes "#^") (var 0) (var 1))
    (Ok (posts 1 (truth 0 (truth 1 (truth 2 (Constraint.Reified (Item.Var 2) Rel.Unequal (term (pos 1) 0 ∷ term (negsuc 0) 1 ∷ []) (pos 0) ∷ is_so 2))))))
    × comes_to (one (codes "#~") (var 0)) (Ok (posts 1 (truth 0 (truth 2 (equal (term (pos 1) 0 ∷ term (pos 1) 2 ∷ []) (negsuc 0) ∷ is_so 2)))))
unfolding comes_to
connectives = (refl, refl, refl, refl, refl)

-- Integers go into the constant; what has no terms is known: 1 #\/ B, X #^ X (which is never so), 0 #<=> 0, and #~ (1 #= 2), where the truth of 1 #= 2 is 0
known : comes_to (two (codes "#\\/") (n 1) (var 0))
    (Ok (posts 1 (truth 0 (truth 2
    (at_most (term (negsuc 0) 2 ∷ []) (pos 1) ∷
    at_most (term (pos 1) 0 ∷ term (negsuc 0) 2 ∷ []) (pos 0) ∷
    at_most (term (negsuc 0) 0 ∷ term (pos 1) 2 ∷ []) (negsuc 0) ∷
    is_so 2)))))
    × comes_to (two (codes "#^") (var 0) (var 0)) (Ok (posts 1 (truth 0 (truth 0 (at_most (term (pos 1) 2 ∷ []) (pos 0) ∷ at_most (term (negsuc 0) 2 ∷ []) (pos 1) ∷ [])))))
    × comes_to (two (codes "#<=>") (n 0) (n 0)) (Ok (posts 0 []))
    × comes_to (one (codes "#~") (two (codes "#=") (n 1) (n 2))) (Ok (posts 1 (truth 2 (equal (term (pos 1) 2 ∷ []) (negsuc 0) ∷ is_so 2))))
unfolding comes_to
known = (refl, refl, refl, refl)

-- X #\/ 2, a #/\ 2, X #\/ f(a), and an operand that is Boolean
wrong-terms : comes_to (two (codes "#\\/") (var 0) (n 2)) (Err (not_a_constraint (n 2)))
    × comes_to (two (codes "#/\\") (atom (codes "a")) (n 2)) (Err (not_a_constraint (atom (codes "a"))))
    × comes_to (two (codes "#\\/") (var 0) (one (codes "f") (atom (codes "a")))) (Err (not_a_constraint (one (codes "f") (atom (codes "a")))))
    × comes_to (two (codes "#=") (two (codes "#/\\") (var 0) (var 1)) (n 2)) (Err (not_a_constraint (two (codes "#/\\") (var 0) (var 1))))
unfolding comes_to
wrong-terms = (refl, refl, refl, refl)
