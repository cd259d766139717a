-- What a goal that posts leaves: new variables, constraints, and default domains, one after the other.
use Rattle.std.specs.Prelude.{◌≡◌, ◌⊎◌, ℕ, zero, suc, ◌<◌, ◌≤◌, ◌+◌, neg_ℤ, List, [], ◌∷◌, ◌++◌, length, take, get_or, Option, Some, None, unwrap_or, Result, Ok, Err, codes, refl}
use Rattle.std.proofs.Common.{arith, sym, ◌∙◌, ap, subst, inl, inr, append_assoc, append-nil}
use Rattle.std.proofs.lemmas.List.{take_more, take_all}
use Rattle.std.proofs.lemmas.List.Elements.{Contains-get_or}
use Rattle.pi_terms.specs.Tree.{Tree, var, int, atom, comp, args, no_trees, tree}
use Rattle.pi_terms.specs.Places.{held}
use Rattle.pi_terms.specs.Variables.{Occurs}
use Rattle.pi_constraints.specs.declared.constraint.Constraint.{Constraint}
use Rattle.pi_constraints.specs.declared.constraint.Item.{Item}
use Rattle.pi_constraints.specs.declared.domain.Span.{Span}
use Rattle.pi_constraints.specs.declared.domain.TheConstants.{MAX_VALUE}
use Rattle.pi_constraints.specs.declared.store.Ref.{Ref}
use Rattle.pi_constraints.specs.declared.store.Cell.{Cell}
use Rattle.pi_constraints.specs.Constraint.{SpeaksOf, HoldVariable, HoldsVariable, SumHasVariable}
use Rattle.pi_constraints.specs.Domain.{size_of, values_of, IsDomain}
use Rattle.pi_constraints.specs.Evaluation.{with_new_variables}
use Rattle.pi_constraints.specs.Stored.{stored}
use Rattle.pi_constraints.specs.State.{State, IsState, Variable, free, within, bound, binding, bindings, next, domain_in, followed, with_new, with_constraint, with_domain, MayPost, SpeaksBelow}
use Rattle.pi_constraints.specs.Store.{StoreView, IsTerm, Stays, Confines, ShowsCell}
use Rattle.pi_constraints.specs.Value.{Bindings, IsAcyclic, value, rounds, replaced_once}
use Rattle.pi_constraints.proofs.CommonLemmas.{size_of-cons}
use Rattle.pi_constraints.proofs.FollowLemmas.{followed_itself, followed_unbound, followed_below, followed_other}
use Rattle.pi_constraints.proofs.StateLemmas.{variable, held_is, domain_good, bound_below}
use Rattle.pi_prop_spec.specs.Places.{places_of, sum_places}
use Rattle.pi_settling.specs.Confined.{with_default, confined_at, confined}
use Rattle.pi_settling.specs.Posted.{with_constraints, places_of_all, posted_in, effect_of_posting}
use Rattle.pi_settling.specs.Roots.{item_of, root_item, all_values}
use Rattle.pi_settling.proofs.TwiceLemmas.{all-domain}
use Rattle.pi_settling.proofs.CalmFollowed.{with-variables}
use Rattle.pi_settling.proofs.CalmGoals.{left_with, fixed-keeps-state}
use Rattle.pi_settling.proofs.ConfinedLemmas.{one-next}
use Rattle.pi_terms.specs.Copy.{copy}
use Rattle.pi_terms.proofs.VariableLemmas.{only_its_variables_count, instance-var}
use Rattle.pi_constraints.proofs.KeepsLemmas.{news-next, news-keep}
use Rattle.pi_constraints.proofs.StateLawLemmas.{constraint-keeps-a-state}
use Rattle.pi_constraints.proofs.ValueLemmas.{occurs_in_instance, value_goes_by_variables, unbound_is_its_own_value, value_has_none_bound}
use Rattle.pi_effects.specs.Balls.{IsBall}
use Rattle.pi_effects.specs.declared.fault.Fault.{Fault}
use Rattle.pi_effects.specs.declared.fault.Stop.{Stop}
use Rattle.pi_effects.specs.Effect.{Succeeds}
use Rattle.pi_effects.specs.Exception.{raised_of, exception_with}
use Rattle.pi_prop_made.specs.declared.posting.Posting.{Posting}
use Rattle.pi_prop_made.specs.Finished.{posting_as}
use Rattle.pi_prop_read.specs.declared.called.PostingGoal.{PostingGoal}
use Rattle.pi_prop_read.specs.declared.called.PostingStop.{PostingStop}
use Rattle.pi_prop_read.specs.Called.{goal_as, ShowsCalled}
use Rattle.pi_prop_read.specs.Refs.{tree_of, IsThere, value_at}
use Rattle.pi_prop_spec.specs.Steps.{Refusal, not_a_constraint, too_many_terms, wide_coefficient}
use Rattle.pi_prop_spec.specs.Terms.{goal_of}
use Rattle.pi_prop_spec.specs.Postings.{Posting as PostingOf, posting_of, posting_in, raised_by}
use Rattle.pi_prop_spec.proofs.PostingLemmas.{postings_may_be_posted}
use Rattle.pi_unify.proofs.KeepsLemmas.{keeps_none}
use Rattle.pi_lib.specs.Outcomes.{ShowsOutcome}
use Rattle.pi_lib.specs.declared.predicates.Outcome.{Outcome}
use Rattle.pi_lib_constraints.specs.Kept.{item_term}
use Rattle.pi_lib_constraints.specs.Posts.{fault_of, MayPostAll, ShowsPosted}

pub stays_none : {M : Type 0} (v : StoreView M) → Stays v v
stays_none v = record { keeps = keeps_none v; state = refl }

-- ---- new variables

new-last : (k : ℕ) (s : State) → with_new (with_new_variables k s) ≡ with_new_variables k (with_new s)
unfolding with_new_variables
new-last zero s = refl
new-last (suc k) s = new-last k (with_new s)

new-suc : (k : ℕ) (s : State) → with_new_variables k (with_new s) ≡ with_new_variables (suc k) s
unfolding with_new_variables
new-suc k s = refl

add-one : (k : ℕ) → suc k ≡ k + 1
add-one k = omega arith

pub news-none : (s : State) → s ≡ with_new_variables 0 s
unfolding with_new_variables
news-none s = refl

pub news-more : (k : ℕ) (s r q : State) → r ≡ with_new_variables k s → q ≡ with_new r → q ≡ with_new_variables (k + 1) s
news-more k s r q is e = e ∙ (ap with_new is ∙ (new-last k s ∙ (new-suc k s ∙ ap (λ (j : ℕ). with_new_variables j s) (add-one k))))

-- ---- constraints

with-one-more : (cs : List Constraint) (c : Constraint) (s : State) → with_constraints (cs ++ c ∷ []) s ≡ with_constraint (with_constraints cs s) c
unfolding with_constraints
with-one-more [] c s = refl
with-one-more (d ∷ cs) c s = with-one-more cs c (with_constraint s d)

pub posted-none : (s : State) → s ≡ with_constraints [] s
unfolding with_constraints
posted-none s = refl

pub may-post : (cs : List Constraint) (k : ℕ) (c : Constraint) (s r : State) → k < length cs → c ≡ get_or cs k c → r ≡ with_constraints (take k cs) s → MayPostAll (next s) cs → MayPost r c
may-post cs k c s r l e is may =
    let one = may (get_or cs k c) (Contains-get_or cs k c l) in
    let many : next r ≡ next s = ap next is ∙ ap (λ (vs : List Variable). length vs) (with-variables (take k cs) s) in
    subst (MayPost r) (sym e) (one.0, λ m h. subst (λ (n : ℕ). m < n) (sym many) (one.1 m h))

pub posted-more : (cs : List Constraint) (k : ℕ) (c : Constraint) (s r q : State) → k < length cs → c ≡ get_or cs k c → r ≡ with_constraints (take k cs) s → q ≡ with_constraint r c → q ≡ with_constraints (take (k + 1) cs) s
posted-more cs k c s r q l e is made =
    made ∙ (ap (λ (t : State). with_constraint t c) is
    ∙ (ap (with_constraint (with_constraints (take k cs) s)) e
    ∙ (sym (with-one-more (take k cs) (get_or cs k c) s) ∙ ap (λ (ds : List Constraint). with_constraints ds s) (sym (take_more cs k c l)))))

pub posted-all : (cs : List Constraint) (k : ℕ) (s r : State) → length cs ≤ k → r ≡ with_constraints (take k cs) s → r ≡ with_constraints cs s
posted-all cs k s r l is = is ∙ ap (λ (ds : List Constraint). with_constraints ds s) (take_all k cs l)

-- ---- default domains

confined-append : (xs ys : List Item) (s : State) → confined s (xs ++ ys) ≡ confined (confined s xs) ys
unfolding confined
confined-append [] ys s = refl
confined-append (x ∷ xs) ys s = confined-append xs ys (confined_at s (root_item s x))

confined-one : (x : Item) (s : State) → confined s (x ∷ []) ≡ confined_at s (root_item s x)
unfolding confined
confined-one x s = refl

pub confined-next : (xs : List Item) (s : State) → next (confined s xs) ≡ next s
unfolding confined
confined-next [] s = refl
confined-next (x ∷ xs) s = confined-next xs (confined_at s (root_item s x)) ∙ one-next s (root_item s x)

two-values : 2 ≤ size_of all_values
two-values = omega (arith, size_of-cons (record { lo = neg_ℤ MAX_VALUE; hi = MAX_VALUE }) [])

default-state : (s : State) (n : ℕ) (v : Variable) → IsState s → variable s n ≡ v → IsState (with_default s n v)
default-state s n free is at = fixed-keeps-state s n (within all_values) is (held_is s n ∙ ap binding at) (left_with all_values all-domain two-values)
default-state s n (within d) is at = is
default-state s n (bound t) is at = is

one-state : (s : State) (x : Item) → IsState s → IsState (confined_at s x)
one-state s (Item.Var n) is = default-state s n (variable s n) is refl
one-state s (Item.Int i) is = is

pub confined-state : (xs : List Item) (s : State) → IsState s → IsState (confined s xs)
unfolding confined
confined-state [] s is = is
confined-state (x ∷ xs) s is = confined-state xs (confined_at s (root_item s x)) (one-state s (root_item s x) is)

-- ---- of items

pub confined-none : (s : State) → s ≡ confined s []
unfolding confined
confined-none s = refl

pub confined-more : (xs : List Item) (k : ℕ) (x : Item) (s r q : State) → k < length xs → x ≡ get_or xs k (Item.Var 0) → r ≡ confined s (take k xs) → q ≡ confined_at r (root_item r x) → q ≡ confined s (take (k + 1) xs)
confined-more xs k x s r q l e is made =
    let d : Item = Item.Var 0 in
    made ∙ (ap (λ (t : State). confined_at t (root_item t x)) is
    ∙ (ap (λ (y : Item). confined_at (confined s (take k xs)) (root_item (confined s (take k xs)) y)) e
    ∙ (sym (confined-one (get_or xs k d) (confined s (take k xs)))
    ∙ (sym (confined-append (take k xs) (get_or xs k d ∷ []) s) ∙ ap (confined s) (sym (take_more xs k d l))))))

pub confined-all : (xs : List Item) (k : ℕ) (s r : State) → length xs ≤ k → r ≡ confined s (take k xs) → r ≡ confined s xs
confined-all xs k s r l is = is ∙ ap (confined s) (take_all k xs l)

pub still-state : (xs : List Item) (s r : State) → IsState s → r ≡ confined s xs → IsState r
still-state xs s r is e = subst IsState (sym e) (confined-state xs s is)

pub still-next : (xs : List Item) (s r : State) → r ≡ confined s xs → next r ≡ next s
still-next xs s r e = ap next e ∙ confined-next xs s

held-at : (xs : List Item) (k : ℕ) (n : ℕ) → k < length xs → get_or xs k (Item.Var 0) ≡ Item.Var n → HoldVariable xs n
unfolding HoldVariable
held-at [] k n l e = absurd (omega (arith, l))
held-at (x ∷ xs) zero n l e = inl (subst (λ (y : Item). HoldsVariable y n) (sym e) refl)
held-at (x ∷ xs) (suc k) n l e = inr (held-at xs k n (omega (arith, l)) e)

pub item-made : (xs : List Item) (k : ℕ) (x : Item) (s r : State) → k < length xs → x ≡ get_or xs k (Item.Var 0) → r ≡ confined s (take k xs) → ((n : ℕ) → HoldVariable xs n → n < next s) → (n : ℕ) → x ≡ Item.Var n → n < next r
item-made xs k x s r l e is all n is-n = subst (λ (m : ℕ). n < m) (sym (still-next (take k xs) s r is)) (all n (held-at xs k n l (sym e ∙ is-n)))

-- ---- of constraints

places-append : (cs : List Constraint) (c : Constraint) → places_of_all (cs ++ c ∷ []) ≡ places_of_all cs ++ places_of c
unfolding places_of_all
places-append [] c = append-nil (places_of c)
places-append (d ∷ cs) c = ap (λ (ys : List Item). places_of d ++ ys) (places-append cs c) ∙ sym (append_assoc (places_of d) (places_of_all cs) (places_of c))

pub all-none : (s : State) → s ≡ confined s (places_of_all [])
unfolding confined places_of_all
all-none s = refl

pub all-more : (cs : List Constraint) (k : ℕ) (c : Constraint) (items : List Item) (s r q : State) → k < length cs → c ≡ get_or cs k c → items ≡ places_of c → r ≡ confined s (places_of_all (take k cs)) → q ≡ confined r items →
    q ≡ confined s (places_of_all (take (k + 1) cs))
all-more cs k c items s r q l e are is made =
    let d : Constraint = get_or cs k c in
    made ∙ (ap (confined r) (are ∙ ap places_of e)
    ∙ (ap (λ (t : State). confined t (places_of d)) is
    ∙ (sym (confined-append (places_of_all (take k cs)) (places_of d) s)
    ∙ (ap (confined s) (sym (places-append (take k cs) d)) ∙ ap (λ (ds : List Constraint). confined s (places_of_all ds)) (sym (take_more cs k c l))))))

pub all-all : (cs : List Constraint) (k : ℕ) (s r : State) → length cs ≤ k → r ≡ confined s (places_of_all (take k cs)) → r ≡ confined s (places_of_all cs)
all-all cs k s r l is = is ∙ ap (λ (ds : List Constraint). confined s (places_of_all ds)) (take_all k cs l)

in-sum : (ts : List (_ × ℕ)) (n : ℕ) → HoldVariable (sum_places ts) n → SumHasVariable ts n
unfolding HoldVariable SumHasVariable sum_places
in-sum [] n h = h
in-sum (t ∷ ts) n (inl h) = inl h
in-sum (t ∷ ts) n (inr h) = inr (in-sum ts n h)

in-items : (xs : List Item) (v : Item) (n : ℕ) → HoldVariable (xs ++ v ∷ []) n → HoldVariable xs n ⊎ HoldsVariable v n
unfolding HoldVariable
in-items [] v n (inl h) = inr h
in-items [] v n (inr h) = absurd h
in-items (x ∷ xs) v n (inl h) = inl (inl h)
in-items (x ∷ xs) v n (inr h) = elim (in-items xs v n h) [
  | inl g ↦ inl (inr g)
  | inr g ↦ inr g
]

-- a variable at a place of a constraint is one that it speaks of
at-place : (c : Constraint) (n : ℕ) → HoldVariable (places_of c) n → SpeaksOf c n
unfolding HoldVariable
at-place (Constraint.Linear rel ts k) n h = in-sum ts n h
at-place (Constraint.Product z x y) n (inl h) = inl h
at-place (Constraint.Product z x y) n (inr (inl h)) = inr (inl h)
at-place (Constraint.Product z x y) n (inr (inr (inl h))) = inr (inr h)
at-place (Constraint.Product z x y) n (inr (inr (inr h))) = absurd h
at-place (Constraint.Absolute z x) n (inl h) = inl h
at-place (Constraint.Absolute z x) n (inr (inl h)) = inr h
at-place (Constraint.Absolute z x) n (inr (inr h)) = absurd h
at-place (Constraint.Different items) n h = h
at-place (Constraint.Element x items v) n (inl h) = inl h
at-place (Constraint.Element x items v) n (inr h) = inr (in-items items v n h)
at-place (Constraint.Reified x rel ts k) n (inl h) = inl h
at-place (Constraint.Reified x rel ts k) n (inr h) = inr (in-sum ts n h)
at-place (Constraint.Distinct items) n h = h

pub places-made : (cs : List Constraint) (k : ℕ) (c : Constraint) (items : List Item) (s r : State) → k < length cs → c ≡ get_or cs k c → items ≡ places_of c → r ≡ confined s (places_of_all (take k cs)) → MayPostAll (next s) cs →
    (n : ℕ) → HoldVariable items n → n < next r
places-made cs k c items s r l e are is may n h =
    let one = may (get_or cs k c) (Contains-get_or cs k c l) in
    subst (λ (m : ℕ). n < m) (sym (still-next (places_of_all (take k cs)) s r is)) (one.1 n (at-place (get_or cs k c) n (subst (λ (xs : List Item). HoldVariable xs n) (are ∙ ap places_of e) h)))

-- ---- of one variable

bound-default : (s : State) (n : ℕ) (t : Tree) (v : Variable) → variable s n ≡ v → followed (bindings s) (var n) ≡ t → ((m : ℕ) → t ≡ var m → ⊥) → with_default s n v ≡ s
bound-default s n t free at e other = absurd (other n (sym e ∙ followed_itself (bindings s) n (held_is s n ∙ ap binding at)))
bound-default s n t (within d) at e other = refl
bound-default s n t (bound u) at e other = refl

pub other-stays : {M : Type 0} (v : StoreView M) (s : State) (n : ℕ) (cell : Cell) → ShowsCell v (followed (bindings s) (var n)) cell → ((m : ℕ) → cell ≡ Cell.Var m → ⊥) → s ≡ confined_at s (root_item s (Item.Var n))
other-stays v s n (Cell.Var m) shows other = absurd (other m refl)
other-stays v s n (Cell.Int i) shows other = sym (ap (λ (t : Tree). confined_at s (item_of n t)) shows)
other-stays v s n (Cell.Atom k) (name, is, e) other = sym (ap (λ (t : Tree). confined_at s (item_of n t)) e ∙ bound-default s n (atom name) (variable s n) refl e (λ m h. cc))
other-stays v s n (Cell.Comp k count) (name, is, e, many) other =
    let whole : Tree = comp name (args (followed (bindings s) (var n))) in
    sym (ap (λ (t : Tree). confined_at s (item_of n t)) e ∙ bound-default s n whole (variable s n) refl e (λ m h. cc))

filled : (s : State) (m : ℕ) (v : Variable) → 0 < length (unwrap_or (domain_in v) []) → with_default s m v ≡ s
filled s m free h = absurd (omega (arith, h))
filled s m (within d) h = refl
filled s m (bound t) h = refl

pub filled-stays : (s : State) (n m : ℕ) → followed (bindings s) (var n) ≡ var m → 0 < length (stored s m) → s ≡ confined_at s (root_item s (Item.Var n))
filled-stays s n m e h = sym (ap (λ (t : Tree). confined_at s (item_of n t)) e ∙ filled s m (variable s m) h)

pub no-domain : (d : List Span) → length d ≡ 0 → 2 ≤ size_of d → ⊥
unfolding values_of
no-domain [] none two = omega (arith, two)
no-domain (x ∷ d) none two = omega (arith, none)

empty-default : (s : State) (m : ℕ) (v : Variable) → IsState s → variable s m ≡ v → held (bindings s) m ≡ None → length (unwrap_or (domain_in v) []) ≡ 0 → with_default s m v ≡ with_domain s m all_values
empty-default s m free is at unbound h = refl
empty-default s m (within d) is at unbound h = absurd (no-domain d h (domain_good s m d is (ap domain_in at)).1)
empty-default s m (bound t) is at unbound h = absurd (let some : Some t ≡ None = sym (ap binding at) ∙ (sym (held_is s m) ∙ unbound) in cc)

pub default-given : {M : Type 0} (v w : StoreView M) (a : Ref) (n m : ℕ) (d : List Span) → IsState v.now.state → d ≡ all_values → IsTerm v a (var n) → SpeaksBelow (next v.now.state) (var n) → followed (bindings v.now.state) (var n) ≡ var m →
    length (stored v.now.state m) ≡ 0 → Confines v w a d → w.now.state ≡ confined_at v.now.state (root_item v.now.state (Item.Var n))
unfolding Occurs
default-given v w a n m d is e at below root empty confines =
    let s : State = v.now.state in
    let b : Bindings = bindings s in
    let unbound : held b m ≡ None = followed_unbound b (var n) m is.acyclic root in
    let made : m < next s = (subst (SpeaksBelow (next s)) root (followed_below (next s) b (var n) (λ k u h. bound_below s k u is h) below)) m refl in
    let given : w.now.state ≡ with_domain s m d = (confines m (var n) at is.acyclic root (made, unbound) (subst (λ (x : List Span). 2 ≤ size_of x) (sym e) two-values)).state in
    given ∙ (ap (with_domain s m) e ∙ (sym (empty-default s m (variable s m) is refl unbound empty) ∙ sym (ap (λ (t : Tree). confined_at s (item_of n t)) root)))

-- ---- of one item

pub item-stays : {M : Type 0} (v : StoreView M) (s : State) (x : Item) (cell : Cell) → ShowsCell v (followed (bindings s) (item_term x)) cell → ((m : ℕ) → cell ≡ Cell.Var m → ⊥) → s ≡ confined_at s (root_item s x)
item-stays v s (Item.Var n) cell shows other = other-stays v s n cell shows other
item-stays v s (Item.Int i) cell shows other = refl

pub filled-item : (s : State) (x : Item) (m : ℕ) → followed (bindings s) (item_term x) ≡ var m → 0 < length (stored s m) → s ≡ confined_at s (root_item s x)
filled-item s (Item.Var n) m e h = filled-stays s n m e h
filled-item s (Item.Int i) m e h = refl

pub item-given : {M : Type 0} (v w : StoreView M) (a : Ref) (x : Item) (m : ℕ) (d : List Span) → IsState v.now.state → d ≡ all_values → IsTerm v a (item_term x) → SpeaksBelow (next v.now.state) (item_term x) →
    followed (bindings v.now.state) (item_term x) ≡ var m → length (stored v.now.state m) ≡ 0 → Confines v w a d → w.now.state ≡ confined_at v.now.state (root_item v.now.state x)
item-given v w a (Item.Var n) m d is e at below root empty confines = default-given v w a n m d is e at below root empty confines
item-given v w a (Item.Int i) m d is e at below root empty confines = absurd (let same : int i ≡ var m = sym (followed_other (bindings v.now.state) (int i) (λ k h. cc)) ∙ root in cc)

-- ---- the parts of a posting

pub all-given : (items old : List Span) → items ≡ old ++ all_values → old ≡ [] → IsDomain items
all-given items old is none = subst IsDomain (sym (is ∙ ap (λ (ss : List Span). ss ++ all_values) none)) all-domain

made-all : (cs : List Constraint) (m n : ℕ) → m ≡ n → MayPostAll m cs → MayPostAll n cs
made-all cs m n e may = subst (λ (k : ℕ). MayPostAll k cs) e may

with-next : (cs : List Constraint) (s : State) → next (with_constraints cs s) ≡ next s
with-next cs s = ap (λ (vs : List Variable). length vs) (with-variables cs s)

with-state : (cs : List Constraint) (q : State) → IsState q → MayPostAll (next q) cs → IsState (with_constraints cs q)
unfolding with_constraints
with-state [] q is may = is
with-state (c ∷ cs) q is may =
    with-state cs (with_constraint q c) (constraint-keeps-a-state q c is (may c (0, omega arith, refl))) (λ d h. may d (suc h.0, omega (arith, h.1), h.2))

pub posting-put : (s a b d : State) (p : PostingOf) → IsState s → MayPostAll (next s + p.fresh) p.list → a ≡ with_new_variables p.fresh s → (MayPostAll (next a) p.list → b ≡ with_constraints p.list a) →
    (IsState b → MayPostAll (next b) p.list → d ≡ confined b (places_of_all p.list)) → d ≡ posted_in s p
posting-put s a b d p is may made posts confines =
    let many : next a ≡ next s + p.fresh = ap next made ∙ news-next p.fresh s in
    let a-may : MayPostAll (next a) p.list = made-all p.list (next s + p.fresh) (next a) (sym many) may in
    let a-is : IsState a = subst IsState (sym made) (news-keep p.fresh s is) in
    let posted : b ≡ with_constraints p.list a = posts a-may in
    let b-is : IsState b = subst IsState (sym posted) (with-state p.list a a-is a-may) in
    let b-many : next b ≡ next a = ap next posted ∙ with-next p.list a in
    confines b-is (made-all p.list (next a) (next b) (sym b-many) a-may)
    ∙ (ap (λ (q : State). confined q (places_of_all p.list)) posted ∙ ap (λ (q : State). confined (with_constraints p.list q) (places_of_all p.list)) made)

-- ---- values of values

once-below : (b : Bindings) (n j m : ℕ) (o : Option Tree) → ((k : ℕ) (u : Tree) → held b k ≡ Some u → SpeaksBelow n u) → held b j ≡ o → j < n → Occurs m (unwrap_or o (var j)) → m < n
unfolding Occurs
once-below b n j m None all at less occurs = subst (λ (k : ℕ). k < n) occurs less
once-below b n j m (Some u) all at less occurs = all j u at m occurs

rounds-below : (k : ℕ) (b : Bindings) (n : ℕ) (t : Tree) → ((m : ℕ) (u : Tree) → held b m ≡ Some u → SpeaksBelow n u) → SpeaksBelow n t → SpeaksBelow n (rounds k b t)
unfolding rounds
rounds-below zero b n t all below = below
rounds-below (suc k) b n t all below =
    rounds-below k b n (replaced_once b t) all
    (λ m occurs. let from = occurs_in_instance (λ j. unwrap_or (held b j) (var j)) t m occurs in once-below b n from.0 m (held b from.0) all refl (below from.0 from.1) from.2)

pub value-below : (s : State) (t : Tree) → IsState s → SpeaksBelow (next s) t → SpeaksBelow (next s) (value (bindings s) t)
unfolding value
value-below s t is below = rounds-below (length (bindings s)) (bindings s) (next s) t (λ m u held. bound_below s m u is held) below

-- a value is its own value
pub value-twice : (b : Bindings) (t : Tree) → IsAcyclic b → value b (value b t) ≡ value b t
value-twice b t a =
    value_goes_by_variables b (value b t)
    ∙ (only_its_variables_count (λ n. value b (var n)) var (value b t) (λ n h. unbound_is_its_own_value b n (value_has_none_bound b t n a h)) ∙ instance-var (value b t))

pub same-exception : (name : List ℕ) (s : State) (t u : Tree) → value (bindings s) t ≡ value (bindings s) u → exception_with name t s ≡ exception_with name u s
unfolding exception_with
same-exception name s t u e = ap (λ (x : Tree). raised_of x (comp name (tree (copy 0 x) no_trees))) e

-- ---- what a goal that posts shows

pub record Posts {M : Type 0} (v : StoreView M) (goal : PostingGoal) (t : Tree) : Type 0 where
  pub state : IsState v.now.state
  pub below : SpeaksBelow (next v.now.state) t
  pub same : goal_of (value (bindings v.now.state) t) ≡ goal_as v.now goal

posting-same : {M : Type 0} (v : StoreView M) (goal : PostingGoal) (t : Tree) (o : Result PostingOf Refusal) → Posts v goal t → posting_of (next v.now.state) (goal_as v.now goal) ≡ o → posting_in v.now.state t ≡ o
posting-same v goal t o h e = ap (posting_of (next v.now.state)) h.same ∙ e

pub posted-shown : {M : Type 0} (v w : StoreView M) (goal : PostingGoal) (t : Tree) (p : Posting) → Posts v goal t → posting_of (next v.now.state) (goal_as v.now goal) ≡ Ok (posting_as p) →
    (MayPostAll (next v.now.state + p.fresh) p.list → w.now.state ≡ posted_in v.now.state (posting_as p)) → ShowsPosted v w (Ok tt) (posting_in v.now.state t)
posted-shown v w goal t p h e puts =
    let s : State = v.now.state in
    let whole : posting_in s t ≡ Ok (posting_as p) = posting-same v goal t (Ok (posting_as p)) h e in
    (posting_as p, whole, puts (postings_may_be_posted (next s) (value (bindings s) t) (posting_as p) (value-below s t h.state h.below) whole))

-- a wrong term is told by its Ref
pub wrong-told : {M : Type 0} (v : StoreView M) (r : Ref) → IsState v.now.state → IsThere v.now r → IsBall v (Fault.NotAConstraint r) (raised_by v.now.state (not_a_constraint (value_at v.now r)))
wrong-told v r is there =
    let s : State = v.now.state in (
      tree_of v.now r,
      there,
      same-exception (codes "not_a_constraint") s (value_at v.now r) (tree_of v.now r) (value-twice (bindings s) (tree_of v.now r) is.acyclic),
    )

pub fault-shown : {M : Type 0} (v : StoreView M) (goal : PostingGoal) (t : Tree) (stop : PostingStop) → Posts v goal t → ShowsCalled v.now (Err stop) (posting_of (next v.now.state) (goal_as v.now goal)) →
    ShowsPosted v v (Err (fault_of stop)) (posting_in v.now.state t)
fault-shown v goal t (PostingStop.NotAConstraint r) h (there, e) = (not_a_constraint (value_at v.now r), posting-same v goal t _ h e, wrong-told v r h.state there, stays_none v)
fault-shown v goal t PostingStop.TooManyTerms h e = (too_many_terms, posting-same v goal t _ h e, refl, stays_none v)
fault-shown v goal t PostingStop.WideCoefficient h e = (wide_coefficient, posting-same v goal t _ h e, refl, stays_none v)
fault-shown v goal t PostingStop.Memory h e = tt

-- as the outcome of a call
pub posted-outcome : {M : Type 0} (v w : StoreView M) (o : Result PostingOf Refusal) → ShowsPosted v w (Ok tt) o → ShowsOutcome v w (Ok Outcome.Yes) (effect_of_posting v.now.state o)
posted-outcome v w o (p, e, is) = ap (effect_of_posting v.now.state) e ∙ ap Succeeds (sym is)

pub refused-outcome : {M : Type 0} (v w : StoreView M) (stop : Stop) (o : Result PostingOf Refusal) → ShowsPosted v w (Err stop) o → ShowsOutcome v w (Err stop) (effect_of_posting v.now.state o)
refused-outcome v w (Stop.Raised fault) o (r, e, ball, stays) = (raised_by v.now.state r, ap (effect_of_posting v.now.state) e, ball, stays)
refused-outcome v w Stop.Memory o h = tt

-- the same where the constraints are lent
pub posting-put-at : (s a b d : State) (p : PostingOf) (ds es : List Constraint) → ds ≡ p.list → es ≡ p.list → IsState s → MayPostAll (next s + p.fresh) p.list → a ≡ with_new_variables p.fresh s → (MayPostAll (next a) ds → b ≡ with_constraints ds a) →
    (IsState b → MayPostAll (next b) es → d ≡ confined b (places_of_all es)) → d ≡ posted_in s p
posting-put-at s a b d p ds es first second is may made posts confines =
    posting-put s a b d p is may made (subst (λ (cs : List Constraint). MayPostAll (next a) cs → b ≡ with_constraints cs a) first posts)
    (subst (λ (cs : List Constraint). IsState b → MayPostAll (next b) cs → d ≡ confined b (places_of_all cs)) second confines)
