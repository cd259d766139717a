-- Each new variable of a posting is made by what is posted of it: relations, Boolean expressions and lists.
use Rattle.std.specs.Prelude.{◌≡◌, ⊤, ℕ, zero, suc, ◌-◌, ◌<◌, ◌≤◌, List, [], ◌∷◌, ℤ, pos, negsuc, Option, Some, None, Result, Ok, Err, refl}
use Rattle.std.proofs.Common.{arith, ap, subst}
use Rattle.pi_terms.specs.Tree.{Tree, var, int, atom, comp}
use Rattle.pi_constraints.specs.declared.constraint.Rel.{Rel}
use Rattle.pi_constraints.specs.declared.constraint.Item.{Item}
use Rattle.pi_constraints.specs.declared.constraint.Constraint.{Constraint}
use Rattle.pi_effects.specs.Items.{collection_items}
use Rattle.pi_prop_spec.specs.Operands.{Operand, Comparison, equal, unequal, less, at_most, greater, at_least, Connective, and, or, either, implies, equivalent, Boolean, truth_variable, truth_number, relation, negation, joined, no_boolean, Goal, relates, is_so, all_different, all_distinct, element, no_constraint}
use Rattle.pi_prop_spec.specs.PostingSums.{Sum, of_number, of_variable, of_item, difference}
use Rattle.pi_prop_spec.specs.Steps.{Refusal, not_a_constraint, Known, Reading, gives, then, posting, linear, step, read_operand}
use Rattle.pi_prop_spec.specs.Relations.{Standing, relation_of, sides_apart, and_apart, read_relation, stands, posts_never, posts_by_terms, posts_standing}
use Rattle.pi_prop_spec.specs.Truths.{truth_variable_is, truth_number_is, bit, truth_by_terms, truth_of_standing, truth_of_negation, truth_of_joined, read_truth}
use Rattle.pi_prop_spec.specs.Lists.{read_item, read_each, items_or_refused, read_collection, posts_element}
use Rattle.pi_prop_spec.specs.Terms.{operand_of, goal_of}
use Rattle.pi_prop_spec.specs.Limits.{first_refusal}
use Rattle.pi_prop_spec.specs.Postings.{Posting, read_goal, nothing_made, posting_unless, finished, posting_of}
use Rattle.pi_prop_spec.proofs.FormLemmas.{IsJoined, ascend_below, joined-added, joined-difference, joined-of_number, joined-of_item, ItemBelow}
use Rattle.pi_prop_spec.proofs.OperandLemmas.{OperandBelow}
use Rattle.pi_prop_spec.proofs.BooleanLemmas.{BooleanBelow}
use Rattle.pi_prop_spec.proofs.TermLemmas.{operand-below, GoalBelow, goal-below}
use Rattle.pi_label_laws.specs.ReadingLaws.{IsMadeBy, NewVariablesAreMade, NewVariablesOfOperandsAreMade}
use Rattle.pi_label_laws.proofs.NewTruths.{standing_truth, standing-makes, negated_truth, negation-makes, both_truth, both-makes, either_truth, either-makes, implied_truth, implied-makes, never, never-makes}
use Rattle.pi_label_laws.proofs.NewReads.{AllMade, News, gives-news, refuses-news, then-news, either-news, posting-news, new-news, GoodSum, step-news, operand-news}

-- ---- relations

abbrev GoodStanding : ℕ → Standing → Type 0
GoodStanding n w = IsJoined n w.sum

abbrev Anything : {A : Type 0} → ℕ → A → Type 0
Anything n x = ⊤

apart-joined : (n : ℕ) (c : Comparison) (u v : Sum) → IsJoined n u → IsJoined n v → IsJoined n (sides_apart c u v)
apart-joined n equal u v h g = joined-difference n u v h g
apart-joined n unequal u v h g = joined-difference n u v h g
apart-joined n less u v h g = joined-difference n u v h g
apart-joined n at_most u v h g = joined-difference n u v h g
apart-joined n greater u v h g = joined-difference n v u g h
apart-joined n at_least u v h g = joined-difference n v u g h

and-joined : (n : ℕ) (c : Comparison) (u : Sum) → IsJoined n u → IsJoined n (and_apart c u)
and-joined n equal u h = h
and-joined n unequal u h = h
and-joined n less u h = joined-added n u (of_number (pos 1)) h (joined-of_number n (pos 1))
and-joined n at_most u h = h
and-joined n greater u h = joined-added n u (of_number (pos 1)) h (joined-of_number n (pos 1))
and-joined n at_least u h = h

relation-news : (base least : ℕ) (c : Comparison) (x y : Operand) → OperandBelow base x → OperandBelow base y → base ≤ least → News base least GoodStanding (read_relation c x y)
unfolding read_relation
relation-news base least c x y p q b =
    then-news base least GoodSum GoodStanding (read_operand x) (λ u. then (read_operand y) (λ v. then (step (sides_apart c u v)) (λ w. gives (record { rel = relation_of c; sum = and_apart c w })))) (operand-news base least x p b)
    (λ n u l ju. then-news base n GoodSum GoodStanding (read_operand y) (λ v. then (step (sides_apart c u v)) (λ w. gives (record { rel = relation_of c; sum = and_apart c w }))) (operand-news base n y q (omega (arith, b, l)))
    (λ k v m jv. then-news base k GoodSum GoodStanding (step (sides_apart c u v)) (λ w. gives (record { rel = relation_of c; sum = and_apart c w }))
    (step-news base k (sides_apart c u v) (apart-joined k c u v (ascend_below n k 0 u.terms m ju) jv))
    (λ j w o jw. gives-news base j GoodStanding (record { rel = relation_of c; sum = and_apart c w }) (λ i l. ascend_below j i 0 (and_apart c w).terms l (and-joined j c w jw)))))

abbrev done : Reading (Unit {0})
done = gives tt

done-news : (base least : ℕ) → News base least Anything done
done-news base least = gives-news base least (Anything {A = Unit {0}}) tt (λ n l. tt)

never-news : (base least : ℕ) → News base least Anything posts_never
never-news base least = new-news base least Anything posts_never never (λ n. tt) (λ m. refl) (λ n l. never-makes n) (λ n l. tt)

posts-by : (base least : ℕ) (ts : List (ℤ × ℕ)) (rel : Rel) (u : Sum) → News base least Anything (posts_by_terms ts rel u)
posts-by base least [] rel u = either-news base least Anything (stands rel u.constant) done posts_never (done-news base least) (never-news base least)
posts-by base least (t ∷ ts) rel u = posting-news base least Anything (linear rel u) done (done-news base least)

-- ---- truths

abbrev GoodItem : ℕ → Item → Type 0
GoodItem n x = ItemBelow n x

item-more : (n k : ℕ) (x : Item) → n ≤ k → ItemBelow n x → ItemBelow k x
item-more n k x l h m o = let low = h m o in omega (arith, l, low)

variable-below : (n v : ℕ) → v < n → ItemBelow n (Item.Var v)
variable-below n v l m o = subst (λ (k : ℕ). k < n) o l

integer-below : (n : ℕ) (i : ℤ) → ItemBelow n (Item.Int i)
integer-below n i m o = absurd o

variable-news : (base least v : ℕ) → v < least → News base least GoodItem (truth_variable_is v)
variable-news base least v l =
    posting-news base least GoodItem (linear Rel.AtMost (difference (of_variable v) (of_number (pos 1)))) (posting (linear Rel.AtMost (difference (of_number (pos 0)) (of_variable v))) (gives (Item.Var v)))
    (posting-news base least GoodItem (linear Rel.AtMost (difference (of_number (pos 0)) (of_variable v))) (gives (Item.Var v)) (gives-news base least GoodItem (Item.Var v) (λ n m. variable-below n v (omega (arith, l, m)))))

integer-news : (base least : ℕ) (i : ℤ) → News base least GoodItem (gives (Item.Int i))
integer-news base least i = gives-news base least GoodItem (Item.Int i) (λ n l. integer-below n i)

number-news : (base least : ℕ) (i : ℤ) → News base least GoodItem (truth_number_is i)
number-news base least (pos zero) = integer-news base least (pos 0)
number-news base least (pos (suc zero)) = integer-news base least (pos 1)
number-news base least (pos (suc (suc n))) = refuses-news base least GoodItem (not_a_constraint (int (pos (suc (suc n)))))
number-news base least (negsuc n) = refuses-news base least GoodItem (not_a_constraint (int (negsuc n)))

new-below : (n : ℕ) → ItemBelow (suc n) (Item.Var n)
new-below n = variable-below (suc n) n (omega arith)

standing-by : (base least : ℕ) (ts : List (ℤ × ℕ)) (rel : Rel) (u : Sum) → IsJoined least u → News base least GoodItem (truth_by_terms ts rel u)
standing-by base least [] rel u j = integer-news base least (bit (stands rel u.constant))
standing-by base least (t ∷ ts) rel u j =
    new-news base least GoodItem (truth_by_terms (t ∷ ts) rel u) (λ n. standing_truth n rel u) Item.Var (λ m. refl) (λ n l. standing-makes n rel u (ascend_below least n 0 u.terms l j)) (λ n l. new-below n)

standing-news : (base least : ℕ) (rel : Rel) (u : Sum) → IsJoined least u → News base least GoodItem (truth_of_standing rel u)
standing-news base least rel u j = standing-by base least u.terms rel u j

negation-news : (base least : ℕ) (x : Item) → ItemBelow least x → News base least GoodItem (truth_of_negation x)
negation-news base least x p =
    new-news base least GoodItem (truth_of_negation x) (λ n. negated_truth n x) Item.Var (λ m. refl) (λ n l. negation-makes n x (item-more least n x l p)) (λ n l. new-below n)

items-apart : (n : ℕ) (x y : Item) → ItemBelow n x → ItemBelow n y → IsJoined n (difference (of_item x) (of_item y))
items-apart n x y p q = joined-difference n (of_item x) (of_item y) (joined-of_item n x p) (joined-of_item n y q)

joined-news : (base least : ℕ) (k : Connective) (x y : Item) → ItemBelow least x → ItemBelow least y → News base least GoodItem (truth_of_joined k x y)
joined-news base least and x y p q =
    new-news base least GoodItem (truth_of_joined and x y) (λ n. both_truth n x y) Item.Var (λ m. refl) (λ n l. both-makes n x y (item-more least n x l p) (item-more least n y l q)) (λ n l. new-below n)
joined-news base least or x y p q =
    new-news base least GoodItem (truth_of_joined or x y) (λ n. either_truth n x y) Item.Var (λ m. refl) (λ n l. either-makes n x y (item-more least n x l p) (item-more least n y l q)) (λ n l. new-below n)
joined-news base least either x y p q = standing-news base least Rel.Unequal (difference (of_item x) (of_item y)) (items-apart least x y p q)
joined-news base least implies x y p q =
    new-news base least GoodItem (truth_of_joined implies x y) (λ n. implied_truth n x y) Item.Var (λ m. refl) (λ n l. implied-makes n x y (item-more least n x l p) (item-more least n y l q)) (λ n l. new-below n)
joined-news base least equivalent x y p q = standing-news base least Rel.Equal (difference (of_item x) (of_item y)) (items-apart least x y p q)

truth-news : (base least : ℕ) (t : Boolean) → BooleanBelow base t → base ≤ least → News base least GoodItem (read_truth t)
unfolding read_truth BooleanBelow
truth-news base least (truth_variable v) s b = variable-news base least v (omega (arith, s, b))
truth-news base least (truth_number i) s b = number-news base least i
truth-news base least (relation c x y) s b =
    then-news base least GoodStanding GoodItem (read_relation c x y) (λ w. truth_of_standing w.rel w.sum) (relation-news base least c x y s.0 s.1 b) (λ n w l j. standing-news base n w.rel w.sum j)
truth-news base least (negation t) s b = then-news base least GoodItem GoodItem (read_truth t) truth_of_negation (truth-news base least t s b) (λ n x l p. negation-news base n x p)
truth-news base least (joined k t u) s b =
    then-news base least GoodItem GoodItem (read_truth t) (λ x. then (read_truth u) (λ y. truth_of_joined k x y)) (truth-news base least t s.0 b)
    (λ n x l p. then-news base n GoodItem GoodItem (read_truth u) (λ y. truth_of_joined k x y) (truth-news base n u s.1 (omega (arith, b, l))) (λ j y m q. joined-news base j k x y (item-more n j x m p) q))
truth-news base least (no_boolean t) s b = refuses-news base least GoodItem (not_a_constraint t)

-- ---- lists, which make no variable

item-news : (base least : ℕ) (t : Tree) → News base least Anything (read_item t)
item-news base least (var n) = gives-news base least Anything (Item.Var n) (λ k l. tt)
item-news base least (int i) = gives-news base least Anything (Item.Int i) (λ k l. tt)
item-news base least (atom name) = refuses-news base least Anything (not_a_constraint (atom name))
item-news base least (comp name ts) = refuses-news base least Anything (not_a_constraint (comp name ts))

each-news : (base least : ℕ) (ts : List Tree) → News base least Anything (read_each ts)
unfolding read_each
each-news base least [] = gives-news base least Anything [] (λ k l. tt)
each-news base least (t ∷ ts) =
    then-news base least Anything Anything (read_item t) (λ x. then (read_each ts) (λ xs. gives (x ∷ xs))) (item-news base least t)
    (λ n x l p. then-news base n Anything Anything (read_each ts) (λ xs. gives (x ∷ xs)) (each-news base n ts) (λ k xs m q. gives-news base k Anything (x ∷ xs) (λ j o. tt)))

collection-by : (base least : ℕ) (t : Tree) (o : Option (List Tree)) → News base least Anything (items_or_refused t o)
collection-by base least t None = refuses-news base least Anything (not_a_constraint t)
collection-by base least t (Some ts) = gives-news base least Anything ts (λ k l. tt)

collection-news : (base least : ℕ) (t : Tree) → News base least Anything (read_collection t)
collection-news base least t = collection-by base least t (collection_items [] t)

last-news : (base least : ℕ) (c : Constraint) → News base least Anything (posting c done)
last-news base least c = posting-news base least Anything c done (done-news base least)

list-news : (base least : ℕ) (f : List Item → Constraint) (t : Tree) → News base least Anything (then (read_collection t) (λ ts. then (read_each ts) (λ xs. posting (f xs) done)))
list-news base least f t =
    then-news base least Anything Anything (read_collection t) (λ ts. then (read_each ts) (λ xs. posting (f xs) done)) (collection-news base least t)
    (λ n ts l p. then-news base n Anything Anything (read_each ts) (λ xs. posting (f xs) done) (each-news base n ts) (λ k xs m q. last-news base k (f xs)))

element-news : (base least : ℕ) (i l v : Tree) → News base least Anything (posts_element i l v)
element-news base least i l v =
    then-news base least Anything Anything (read_item i) (λ index. then (read_collection l) (λ ts. then (read_item v) (λ value. then (read_each ts) (λ xs. posting (Constraint.Element index xs value) done)))) (item-news base least i)
    (λ n index a p. then-news base n Anything Anything (read_collection l) (λ ts. then (read_item v) (λ value. then (read_each ts) (λ xs. posting (Constraint.Element index xs value) done))) (collection-news base n l)
    (λ k ts b q. then-news base k Anything Anything (read_item v) (λ value. then (read_each ts) (λ xs. posting (Constraint.Element index xs value) done)) (item-news base k v)
    (λ j value c r. then-news base j Anything Anything (read_each ts) (λ xs. posting (Constraint.Element index xs value) done) (each-news base j ts) (λ o xs d s. last-news base o (Constraint.Element index xs value)))))

-- ---- goals

goal-news : (base least : ℕ) (g : Goal) → GoalBelow base g → base ≤ least → News base least Anything (read_goal g)
unfolding GoalBelow
goal-news base least (relates c x y) s b =
    then-news base least GoodStanding Anything (read_relation c x y) (λ w. posts_standing w.rel w.sum) (relation-news base least c x y s.0 s.1 b) (λ n w l j. posts-by base n w.sum.terms w.rel w.sum)
goal-news base least (is_so t) s b =
    then-news base least GoodItem Anything (read_truth t) (λ x. posts_standing Rel.Equal (difference (of_item x) (of_number (pos 1)))) (truth-news base least t s b)
    (λ n x l p. posts-by base n (difference (of_item x) (of_number (pos 1))).terms Rel.Equal (difference (of_item x) (of_number (pos 1))))
goal-news base least (all_different t) s b = list-news base least Constraint.Different t
goal-news base least (all_distinct t) s b = list-news base least Constraint.Distinct t
goal-news base least (element i l v) s b = element-news base least i l v
goal-news base least (no_constraint t) s b = refuses-news base least Anything (not_a_constraint t)

-- ---- postings

nothing-made : (n : ℕ) → AllMade n (nothing_made n)
nothing-made n v low high = absurd (omega (arith, low, high))

-- what a posting was made of
pub record WasRead (n : ℕ) (g : Goal) (p : Posting) : Type 0 where
  pub known : Known (Unit {0})
  pub read : read_goal g (nothing_made n) ≡ Ok known
  pub same : record { fresh = known.made.unused - n; list = known.made.constraints } ≡ p

posting_or : Posting → Result Posting Refusal → Posting
posting_or p (Err r) = p
posting_or p (Ok q) = q

pub was-read : (n : ℕ) (g : Goal) (p : Posting) → posting_of n g ≡ Ok p → WasRead n g p
unfolding posting_or
was-read n g p e = by (read_goal g (nothing_made n)) refl e
  where
    unless : (k : Known (Unit {0})) (o : Option Refusal) → read_goal g (nothing_made n) ≡ Ok k → posting_unless o n k.made ≡ Ok p → WasRead n g p
    unless k (Some r) f e = absurd cc
    unless k None f e = record { known = k; read = f; same = ap (posting_or p) e }

    by : (o : Result (Known (Unit {0})) Refusal) → read_goal g (nothing_made n) ≡ o → finished n o ≡ Ok p → WasRead n g p
    by (Err r) f e = absurd cc
    by (Ok k) f e = unless k (first_refusal k.made.constraints) f e

pub new_variables_are_made : NewVariablesAreMade
new_variables_are_made n t p s e m low high =
    let w : WasRead n (goal_of t) p = was-read n (goal_of t) p e in
    let all = (goal-news n n (goal_of t) (goal-below n t s) (omega arith)).each (nothing_made n) w.known (omega arith) (nothing-made n) w.read in
    let more : n ≤ w.known.made.unused = all.0 in
    let many : w.known.made.unused - n ≡ p.fresh = ap (λ (q : Posting). q.fresh) w.same in
    subst (λ (q : Posting). IsMadeBy q.list m) w.same (all.1 m low (omega (arith, more, many, high)))

pub new_variables_of_operands_are_made : NewVariablesOfOperandsAreMade
new_variables_of_operands_are_made n t k s e m low high =
    ((operand-news n n (operand_of t) (operand-below n t s) (omega arith)).each (nothing_made n) k (omega arith) (nothing-made n) e).1 m low high
