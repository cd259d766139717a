-- Of which variables relations, Boolean expressions and what they post speak.
use Rattle.std.specs.Prelude.{⊤, ℕ, zero, suc, List, [], ◌∷◌, ℤ, pos, negsuc}
use Rattle.pi_terms.specs.Tree.{int}
use Rattle.pi_constraints.specs.declared.constraint.Rel.{Rel}
use Rattle.pi_constraints.specs.declared.constraint.Item.{Item}
use Rattle.pi_constraints.specs.declared.constraint.Constraint.{Constraint}
use Rattle.pi_prop_spec.specs.Operands.{Operand, Comparison, equal, unequal, less, at_most, greater, at_least, Connective, and, or, either, implies, equivalent}
use Rattle.pi_prop_spec.specs.PostingSums.{Sum, of_number, of_variable, of_item, added, difference}
use Rattle.pi_prop_spec.specs.Steps.{not_a_constraint, Reading, gives, then, new_variable, posting, linear, step, read_operand}
use Rattle.pi_prop_spec.specs.Relations.{Standing, relation_of, sides_apart, and_apart, read_relation, stands, posts_never, posts_by_terms, posts_standing}
use Rattle.pi_prop_spec.specs.Truths.{truth_variable_is, new_truth, truth_number_is, bit, truth_by_terms, truth_of_standing, truth_of_negation, truth_of_joined}
use Rattle.pi_settling.proofs.CalmReads.{ItemOnly, Each, SumOnly, places-only, number-only, variable-only, item-only, added-only, difference-only, gives-reads, refuses-reads, then-reads, posting-reads, new-reads, either-reads, step-reads, linear-only, ReadsOperand, Reads}

-- ---- relations

abbrev pub Anything : Unit {0} → Type 0
Anything u = ⊤

abbrev pub StandingOnly : (ℕ → Type 0) → Standing → Type 0
StandingOnly Q w = SumOnly Q w.sum

apart-only : (Q : ℕ → Type 0) (c : Comparison) (u v : Sum) → SumOnly Q u → SumOnly Q v → SumOnly Q (sides_apart c u v)
apart-only Q equal u v h g = difference-only Q u v h g
apart-only Q unequal u v h g = difference-only Q u v h g
apart-only Q less u v h g = difference-only Q u v h g
apart-only Q at_most u v h g = difference-only Q u v h g
apart-only Q greater u v h g = difference-only Q v u g h
apart-only Q at_least u v h g = difference-only Q v u g h

and-apart-only : (Q : ℕ → Type 0) (c : Comparison) (u : Sum) → SumOnly Q u → SumOnly Q (and_apart c u)
and-apart-only Q equal u h = h
and-apart-only Q unequal u h = h
and-apart-only Q less u h = added-only Q u (of_number (pos 1)) h (number-only Q (pos 1))
and-apart-only Q at_most u h = h
and-apart-only Q greater u h = added-only Q u (of_number (pos 1)) h (number-only Q (pos 1))
and-apart-only Q at_least u h = h

pub relation-reads : (Q : ℕ → Type 0) (c : Comparison) (x y : Operand) → ReadsOperand Q x → ReadsOperand Q y → Reads Q (StandingOnly Q) (read_relation c x y)
unfolding read_relation
relation-reads Q c x y h g =
    then-reads Q (SumOnly Q) (StandingOnly Q) (read_operand x) (λ u. then (read_operand y) (λ v. then (step (sides_apart c u v)) (λ w. gives (record { rel = relation_of c; sum = and_apart c w })))) h
    (λ u p. then-reads Q (SumOnly Q) (StandingOnly Q) (read_operand y) (λ v. then (step (sides_apart c u v)) (λ w. gives (record { rel = relation_of c; sum = and_apart c w }))) g
    (λ v q. then-reads Q (SumOnly Q) (StandingOnly Q) (step (sides_apart c u v)) (λ w. gives (record { rel = relation_of c; sum = and_apart c w })) (step-reads Q (sides_apart c u v) (apart-only Q c u v p q))
    (λ w r. gives-reads Q (StandingOnly Q) (record { rel = relation_of c; sum = and_apart c w }) (and-apart-only Q c w r))))

-- a sum that is posted
sum-reads : (Q : ℕ → Type 0) {A : Type 0} (Good : A → Type 0) (rel : Rel) (u : Sum) (r : Reading A) → SumOnly Q u → Reads Q Good r → Reads Q Good (posting (linear rel u) r)
sum-reads Q Good rel u r h g = posting-reads Q Good (linear rel u) r (linear-only Q rel u h) g

pub done-reads : (Q : ℕ → Type 0) → Reads Q Anything (gives tt)
done-reads Q = gives-reads Q Anything tt tt

never-reads : (Q : ℕ → Type 0) → Reads Q Anything posts_never
never-reads Q =
    then-reads Q Q Anything new_variable (λ n. posting (linear Rel.AtMost (of_variable n)) (posting (linear Rel.AtMost (difference (of_number (pos 1)) (of_variable n))) (gives tt))) (new-reads Q)
    (λ n q. sum-reads Q Anything Rel.AtMost (of_variable n) (posting (linear Rel.AtMost (difference (of_number (pos 1)) (of_variable n))) (gives tt)) (variable-only Q n q)
    (sum-reads Q Anything Rel.AtMost (difference (of_number (pos 1)) (of_variable n)) (gives tt) (difference-only Q (of_number (pos 1)) (of_variable n) (number-only Q (pos 1)) (variable-only Q n q)) (done-reads Q)))

posts-by : (Q : ℕ → Type 0) (ts : List (ℤ × ℕ)) (rel : Rel) (u : Sum) → SumOnly Q u → Reads Q Anything (posts_by_terms ts rel u)
posts-by Q [] rel u h = either-reads Q Anything (stands rel u.constant) (gives tt) posts_never (done-reads Q) (never-reads Q)
posts-by Q (t ∷ ts) rel u h = sum-reads Q Anything rel u (gives tt) h (done-reads Q)

pub standing-reads : (Q : ℕ → Type 0) (rel : Rel) (u : Sum) → SumOnly Q u → Reads Q Anything (posts_standing rel u)
standing-reads Q rel u h = posts-by Q u.terms rel u h

-- ---- truths

abbrev pub ReadsItem : (ℕ → Type 0) → Reading Item → Type 0
ReadsItem Q r = Reads Q (ItemOnly Q) r

-- an item that is to be 1
pub standing-item : (Q : ℕ → Type 0) (x : Item) → ItemOnly Q x → Reads Q Anything (posts_standing Rel.Equal (difference (of_item x) (of_number (pos 1))))
standing-item Q x p = standing-reads Q Rel.Equal (difference (of_item x) (of_number (pos 1))) (difference-only Q (of_item x) (of_number (pos 1)) (item-only Q x p) (number-only Q (pos 1)))

pub truth-variable-reads : (Q : ℕ → Type 0) (n : ℕ) → Q n → ReadsItem Q (truth_variable_is n)
truth-variable-reads Q n q =
    let this : SumOnly Q (of_variable n) = variable-only Q n q in
    sum-reads Q (ItemOnly Q) Rel.AtMost (difference (of_variable n) (of_number (pos 1))) (posting (linear Rel.AtMost (difference (of_number (pos 0)) (of_variable n))) (gives (Item.Var n)))
    (difference-only Q (of_variable n) (of_number (pos 1)) this (number-only Q (pos 1)))
    (sum-reads Q (ItemOnly Q) Rel.AtMost (difference (of_number (pos 0)) (of_variable n)) (gives (Item.Var n)) (difference-only Q (of_number (pos 0)) (of_variable n) (number-only Q (pos 0)) this)
    (gives-reads Q (ItemOnly Q) (Item.Var n) q))

new-truth-reads : (Q : ℕ → Type 0) → ReadsItem Q new_truth
new-truth-reads Q = then-reads Q Q (ItemOnly Q) new_variable truth_variable_is (new-reads Q) (truth-variable-reads Q)

-- a new truth, and what is posted of it
with-truth : (Q : ℕ → Type 0) (f : Item → Reading Item) → ((t : Item) → ItemOnly Q t → ReadsItem Q (f t)) → ReadsItem Q (then new_truth f)
with-truth Q f h = then-reads Q (ItemOnly Q) (ItemOnly Q) new_truth f (new-truth-reads Q) h

item-given : (Q : ℕ → Type 0) (x : Item) → ItemOnly Q x → ReadsItem Q (gives x)
item-given Q x h = gives-reads Q (ItemOnly Q) x h

pub truth-number-reads : (Q : ℕ → Type 0) (i : ℤ) → ReadsItem Q (truth_number_is i)
truth-number-reads Q (pos zero) = item-given Q (Item.Int (pos 0)) tt
truth-number-reads Q (pos (suc zero)) = item-given Q (Item.Int (pos 1)) tt
truth-number-reads Q (pos (suc (suc n))) = refuses-reads Q (ItemOnly Q) (not_a_constraint (int (pos (suc (suc n)))))
truth-number-reads Q (negsuc n) = refuses-reads Q (ItemOnly Q) (not_a_constraint (int (negsuc n)))

truth-by : (Q : ℕ → Type 0) (ts : List (ℤ × ℕ)) (rel : Rel) (u : Sum) → SumOnly Q u → ReadsItem Q (truth_by_terms ts rel u)
unfolding Each
truth-by Q [] rel u h = item-given Q (Item.Int (bit (stands rel u.constant))) tt
truth-by Q (t ∷ ts) rel u h = with-truth Q (λ x. posting (Constraint.Reified x rel u.terms u.constant) (gives x))
    (λ x q. posting-reads Q (ItemOnly Q) (Constraint.Reified x rel u.terms u.constant) (gives x) (q, places-only Q u.terms h) (item-given Q x q))

pub truth-standing-reads : (Q : ℕ → Type 0) (rel : Rel) (u : Sum) → SumOnly Q u → ReadsItem Q (truth_of_standing rel u)
truth-standing-reads Q rel u h = truth-by Q u.terms rel u h

pub negation-reads : (Q : ℕ → Type 0) (x : Item) → ItemOnly Q x → ReadsItem Q (truth_of_negation x)
negation-reads Q x p = with-truth Q (λ t. posting (linear Rel.Equal (difference (added (of_item t) (of_item x)) (of_number (pos 1)))) (gives t))
    (λ t q. sum-reads Q (ItemOnly Q) Rel.Equal (difference (added (of_item t) (of_item x)) (of_number (pos 1))) (gives t)
    (difference-only Q (added (of_item t) (of_item x)) (of_number (pos 1)) (added-only Q (of_item t) (of_item x) (item-only Q t q) (item-only Q x p)) (number-only Q (pos 1))) (item-given Q t q))

-- three sums at most 0, and then the truth
three : (Q : ℕ → Type 0) (u v w : Sum) (t : Item) → SumOnly Q u → SumOnly Q v → SumOnly Q w → ItemOnly Q t →
    ReadsItem Q (posting (linear Rel.AtMost u) (posting (linear Rel.AtMost v) (posting (linear Rel.AtMost w) (gives t))))
three Q u v w t a b c q =
    sum-reads Q (ItemOnly Q) Rel.AtMost u (posting (linear Rel.AtMost v) (posting (linear Rel.AtMost w) (gives t))) a
    (sum-reads Q (ItemOnly Q) Rel.AtMost v (posting (linear Rel.AtMost w) (gives t)) b (sum-reads Q (ItemOnly Q) Rel.AtMost w (gives t) c (item-given Q t q)))

pub joined-reads : (Q : ℕ → Type 0) (k : Connective) (x y : Item) → ItemOnly Q x → ItemOnly Q y → ReadsItem Q (truth_of_joined k x y)
joined-reads Q and x y p r =
    let a : SumOnly Q (of_item x) = item-only Q x p in
    let b : SumOnly Q (of_item y) = item-only Q y r in
    with-truth Q _ (λ t q.
    let c : SumOnly Q (of_item t) = item-only Q t q in
    three Q (difference (of_item t) (of_item x)) (difference (of_item t) (of_item y)) (difference (difference (added (of_item x) (of_item y)) (of_item t)) (of_number (pos 1))) t
    (difference-only Q (of_item t) (of_item x) c a) (difference-only Q (of_item t) (of_item y) c b)
    (difference-only Q (difference (added (of_item x) (of_item y)) (of_item t)) (of_number (pos 1)) (difference-only Q (added (of_item x) (of_item y)) (of_item t) (added-only Q (of_item x) (of_item y) a b) c) (number-only Q (pos 1))) q)
joined-reads Q or x y p r =
    let a : SumOnly Q (of_item x) = item-only Q x p in
    let b : SumOnly Q (of_item y) = item-only Q y r in
    with-truth Q _ (λ t q.
    let c : SumOnly Q (of_item t) = item-only Q t q in
    three Q (difference (of_item x) (of_item t)) (difference (of_item y) (of_item t)) (difference (difference (of_item t) (of_item x)) (of_item y)) t
    (difference-only Q (of_item x) (of_item t) a c) (difference-only Q (of_item y) (of_item t) b c)
    (difference-only Q (difference (of_item t) (of_item x)) (of_item y) (difference-only Q (of_item t) (of_item x) c a) b) q)
joined-reads Q either x y p r = truth-standing-reads Q Rel.Unequal (difference (of_item x) (of_item y)) (difference-only Q (of_item x) (of_item y) (item-only Q x p) (item-only Q y r))
joined-reads Q implies x y p r =
    let a : SumOnly Q (of_item x) = item-only Q x p in
    let b : SumOnly Q (of_item y) = item-only Q y r in
    with-truth Q _ (λ t q.
    let c : SumOnly Q (of_item t) = item-only Q t q in
    three Q (difference (difference (of_number (pos 1)) (of_item x)) (of_item t)) (difference (of_item y) (of_item t)) (difference (difference (added (of_item t) (of_item x)) (of_item y)) (of_number (pos 1))) t
    (difference-only Q (difference (of_number (pos 1)) (of_item x)) (of_item t) (difference-only Q (of_number (pos 1)) (of_item x) (number-only Q (pos 1)) a) c) (difference-only Q (of_item y) (of_item t) b c)
    (difference-only Q (difference (added (of_item t) (of_item x)) (of_item y)) (of_number (pos 1)) (difference-only Q (added (of_item t) (of_item x)) (of_item y) (added-only Q (of_item t) (of_item x) c a) b) (number-only Q (pos 1))) q)
joined-reads Q equivalent x y p r = truth-standing-reads Q Rel.Equal (difference (of_item x) (of_item y)) (difference-only Q (of_item x) (of_item y) (item-only Q x p) (item-only Q y r))
