-- A state and its stable state have the same solutions.
use Rattle.std.specs.Prelude.{◌≡◌, ℕ, ◌<◌, ℤ, IsTrue, List, Some, None, Contains, refl}
use Rattle.std.proofs.Common.{arith, sym, ◌∙◌, ap, subst, inl, inr}
use Rattle.pi_terms.specs.Tree.{Tree, var, int, atom, comp}
use Rattle.pi_terms.specs.Places.{held}
use Rattle.pi_terms.specs.Substitution.{instance}
use Rattle.pi_constraints.specs.declared.constraint.Constraint.{Constraint}
use Rattle.pi_constraints.specs.declared.constraint.Item.{Item}
use Rattle.pi_constraints.specs.declared.domain.Span.{Span}
use Rattle.pi_constraints.specs.Domain.{IsWithinBounds, has_value}
use Rattle.pi_constraints.proofs.DomainLemmas.{values_are_within_bounds}
use Rattle.pi_prop_spec.specs.Solutions.{value_of}
use Rattle.pi_constraints.specs.Value.{value, IsAcyclic}
use Rattle.pi_constraints.specs.State.{State, Variable, within, binding, bindings, next, domain_in, followed, IsState}
use Rattle.pi_constraints.proofs.FollowLemmas.{followed_value, followed_unbound}
use Rattle.pi_constraints.proofs.StateLemmas.{variable, held_is, domain_good}
use Rattle.pi_constraints.proofs.RootLemmas.{with_values, value_atom, value_comp}
use Rattle.pi_settling.specs.Roots.{root_item, item_of, only, domain_or_all, given, Counts, by_domain, by_place}
use Rattle.pi_settling.specs.Stable.{Stays, Narrows, stays_free, stays_bound, some_stay, one_stays, IsStable}
use Rattle.pi_settling.specs.Solves.{Solves}
use Rattle.pi_settling.specs.SettlingLaws.{MaySettle, SolutionsStay}
use Rattle.pi_settling.proofs.RootLemmas.{root-by_value, value_later, Kept, Items, root_later}
use Rattle.pi_settling.proofs.StableLemmas.{only-has, root-value, settling_keeps_solutions}
use Rattle.pi_settling.proofs.TwiceLemmas.{past_free, less_or_not, left, ahead, left-given, ahead-one, ahead-integer, ahead-stays, variable-ahead, ahead-given, unbound-root, integer-root, counted, has_in, stays-bounded, within_of, narrowed-within, later-root, stable-keeps, stable-items}
use Rattle.pi_settling.proofs.UniqueLemmas.{domain_made}
use Rattle.pi_settling.proofs.KeepLemmas.{stable_is_a_state}

-- ---- values go by the bindings behind

-- bindings are kept, and each variable that was unbound leads to its value
pub record GoesOn (s r : State) (a : ℕ → ℤ) : Type 0 where
  pub before : IsAcyclic (bindings s)
  pub after : IsAcyclic (bindings r)
  pub kept : Kept (bindings s) (bindings r)
  pub items : Items (bindings s) (bindings r)
  pub follows : (n : ℕ) → value_of a (root_item s (Item.Var n)) ≡ a n
  pub unbound : (m : ℕ) → held (bindings s) m ≡ None → value_of a (root_item r (Item.Var m)) ≡ a m

-- a variable that leads to an atom or a compound still does
term-root : (s r : State) (a : ℕ → ℤ) → GoesOn s r a → (n : ℕ) (u : Tree) → value (bindings s) (var n) ≡ u → ((k : ℕ) → item_of k (instance (λ m. value (bindings r) (var m)) u) ≡ Item.Var k) →
    root_item r (Item.Var n) ≡ Item.Var n
unfolding instance
term-root s r a g n u e same =
    root-by_value (bindings r) n g.after
    ∙ (ap (item_of n) (sym (value_later (bindings s) (bindings r) (var n) g.after g.kept) ∙ ap (instance (λ m. value (bindings r) (var m))) e) ∙ same n)

followed-value : (s r : State) (a : ℕ → ℤ) → GoesOn s r a → (n : ℕ) (u : Tree) → followed (bindings s) (var n) ≡ u → root_item s (Item.Var n) ≡ item_of n u →
    value_of a (root_item r (Item.Var n)) ≡ a n
unfolding instance
followed-value s r a g n (var m) e at =
    ap (value_of a) (sym (root_later s r g.before g.after g.kept g.items (Item.Var n)) ∙ ap (root_item r) at)
    ∙ (g.unbound m (followed_unbound (bindings s) (var n) m g.before e) ∙ (sym (ap (value_of a) at) ∙ g.follows n))
followed-value s r a g n (int i) e at =
    ap (value_of a) (sym (root_later s r g.before g.after g.kept g.items (Item.Var n)) ∙ ap (root_item r) at) ∙ (sym (ap (value_of a) at) ∙ g.follows n)
followed-value s r a g n (atom name) e at =
    ap (value_of a) (term-root s r a g n (atom name) (sym (followed_value (bindings s) (var n) g.before) ∙ (ap (value (bindings s)) e ∙ value_atom (bindings s) name)) (λ k. refl))
followed-value s r a g n (comp name ts) e at =
    ap (value_of a) (term-root s r a g n (comp name (with_values (bindings s) ts)) (sym (followed_value (bindings s) (var n) g.before) ∙ (ap (value (bindings s)) e ∙ value_comp (bindings s) name ts)) (λ k. refl))

pub root-value_by : (s r : State) (a : ℕ → ℤ) → GoesOn s r a → (n : ℕ) → value_of a (root_item r (Item.Var n)) ≡ a n
root-value_by s r a g n = followed-value s r a g n (followed (bindings s) (var n)) refl refl

-- ---- in a stable state

-- a variable that is unbound before
narrowed-value : (s r : State) (a : ℕ → ℤ) → IsState r → IsStable s r → Solves s a → (m : ℕ) (v w : Variable) → Narrows s m v w → variable s m ≡ v → variable r m ≡ w → binding v ≡ None →
    value_of a (root_item r (Item.Var m)) ≡ a m
narrowed-value s r a is f h m v w stays_free at there none = ap (value_of a) (unbound-root r m (ap binding there))
narrowed-value s r a is f h m v w (stays_bound t) at there none = absurd cc
narrowed-value s r a is f h m v w (some_stay d e p q all) at there none = ap (value_of a) (unbound-root r m (ap binding there))
narrowed-value s r a is f h m v w (one_stays d i all) at there none =
    let stays : Stays s (Item.Var m) (a m) = settling_keeps_solutions s a h (Item.Var m) (by_domain m d refl (ap domain_in at)) in
    ap (value_of a) (integer-root r m i is.acyclic (ap binding there)) ∙ sym ((all (a m)).1 stays)

unbound-value : (s r : State) (a : ℕ → ℤ) → IsState r → IsStable s r → Solves s a → (m : ℕ) → held (bindings s) m ≡ None → value_of a (root_item r (Item.Var m)) ≡ a m
unbound-value s r a is f h m none = elim (less_or_not m (next s)) [
  | inl l ↦ narrowed-value s r a is f h m (variable s m) (variable r m) (f.variables m l) refl refl (sym (held_is s m) ∙ none)
  | inr past ↦ ap (value_of a) (unbound-root r m (ap binding (past_free r m (let e = f.count in omega arith))))
]

root-value_later : (s r : State) (a : ℕ → ℤ) → IsState s → IsState r → IsStable s r → Solves s a → (n : ℕ) → value_of a (root_item r (Item.Var n)) ≡ a n
root-value_later s r a is is' f h n = root-value_by s r a (record {
  before = is.acyclic;
  after = is'.acyclic;
  kept = stable-keeps s r f;
  items = stable-items s r is'.acyclic f;
  follows = h.follows;
  unbound = unbound-value s r a is' f h;
}) n

item-value_later : (s r : State) (a : ℕ → ℤ) → IsState s → IsState r → IsStable s r → Solves s a → (y : Item) → value_of a (root_item r y) ≡ value_of a (root_item s y)
item-value_later s r a is is' f h (Item.Var n) = root-value_later s r a is is' f h n ∙ sym (h.follows n)
item-value_later s r a is is' f h (Item.Int i) = refl

-- ---- a solution stays one

posted-before : (s r : State) → IsStable s r → (c : Constraint) → Contains r.constraints c → Contains s.constraints c
posted-before s r f c posted = subst (λ (cs : List Constraint). Contains cs c) f.constraints posted

kept-value : (s r : State) (a : ℕ → ℤ) → IsState s → IsState r → MaySettle s → IsStable s r → Solves s a → (x : Item) → Counts r x → IsTrue (has_value (given r x) (value_of a x)) × IsWithinBounds (value_of a x)
unfolding ahead left
kept-value s r a is is' may f h x (by_domain n e same has) =
    let l : n < next s = (let made = domain_made r n e has in let count = f.count in omega arith) in
    let at : variable r n ≡ within e = within_of (variable r n) e has in
    let was = narrowed-within s n (variable s n) (variable r n) e (f.variables n l) at in
    let counts : Counts s (Item.Var n) = by_domain n was.2.0 refl was.2.1 in
    let there : IsTrue (has_value (ahead r (Item.Var n)) (a n)) = (variable-ahead s r n was.2.0 (a n) is'.acyclic f was.2.1).1 (settling_keeps_solutions s a h (Item.Var n) counts) in
    let here : IsTrue (has_value (given r (Item.Var n)) (a n)) = has_in (ahead r (Item.Var n)) (given r (Item.Var n)) (a n) (ap (left r) (unbound-root r n (ap binding at))) there in
    subst (λ (y : Item). IsTrue (has_value (given r y) (value_of a y)) × IsWithinBounds (value_of a y)) (sym same) (here, h.bounded (Item.Var n) counts)
kept-value s r a is is' may f h x (by_place c y posted at same) =
    let counts : Counts s (root_item s y) = by_place c y (posted-before s r f c posted) at refl in
    let i : ℤ = value_of a (root_item s y) in
    let there : IsTrue (has_value (ahead r (root_item s y)) i) = (ahead-stays s r (root_item s y) i is'.acyclic may f counts).1 (settling_keeps_solutions s a h (root_item s y) counts) in
    let here : IsTrue (has_value (given r (root_item r y)) i) = left-given r (root_item r y) i (has_in (ahead r (root_item s y)) (left r (root_item r y)) i (ap (left r) (later-root s r is is' f y)) there) in
    let value_is : i ≡ value_of a (root_item r y) = sym (item-value_later s r a is is' f h y) in
    subst (λ (z : Item). IsTrue (has_value (given r z) (value_of a z)) × IsWithinBounds (value_of a z)) (sym same)
    (subst (λ (j : ℤ). IsTrue (has_value (given r (root_item r y)) j) × IsWithinBounds j) value_is (here, h.bounded (root_item s y) counts))

solves-later : (s r : State) (a : ℕ → ℤ) → IsState s → IsState r → MaySettle s → IsStable s r → Solves s a → Solves r a
solves-later s r a is is' may f h = record {
  follows = root-value_later s r a is is' f h;
  values = λ x counts. (kept-value s r a is is' may f h x counts).0;
  bounded = λ x counts. (kept-value s r a is is' may f h x counts).1;
  holds = λ c posted. h.holds c (posted-before s r f c posted);
}

-- ---- and none comes in

-- the value of a variable with a domain, in the stable state
narrowed-has : (s r : State) (a : ℕ → ℤ) → IsState r → IsStable s r → Solves r a → (n : ℕ) (v w : Variable) (d : List Span) → Narrows s n v w → variable r n ≡ w → domain_in v ≡ Some d →
    IsTrue (has_value (ahead r (Item.Var n)) (a n))
unfolding ahead left
narrowed-has s r a is f h n v w d stays_free there has = absurd cc
narrowed-has s r a is f h n v w d (stays_bound t) there has = absurd cc
narrowed-has s r a is f h n v w d (some_stay d' e p q all) there has =
    has_in (given r (Item.Var n)) (ahead r (Item.Var n)) (a n) (sym (ap (left r) (unbound-root r n (ap binding there)))) (h.values (Item.Var n) (by_domain n e refl (ap domain_in there)))
narrowed-has s r a is f h n v w d (one_stays d' i all) there has =
    let value_is : a n ≡ i = sym (h.follows n) ∙ ap (value_of a) (integer-root r n i is.acyclic (ap binding there)) in
    let same : ahead r (Item.Var n) ≡ only i = ahead-one r n i is.acyclic (stays-bounded s (Item.Var n) i ((all i).0 refl)) there in
    has_in (only i) (ahead r (Item.Var n)) (a n) (sym same) (subst (λ (z : ℤ). IsTrue (has_value (only i) z)) (sym value_is) (only-has i))

ahead-value : (s r : State) (a : ℕ → ℤ) → IsState r → MaySettle s → IsStable s r → Solves r a → (x : Item) → Counts s x → IsTrue (has_value (ahead r x) (value_of a x))
ahead-value s r a is may f h x counts = elim (counted s x may counts) [
  | inl (n, d, e, has) ↦
      subst (λ (y : Item). IsTrue (has_value (ahead r y) (value_of a y))) (sym e) (narrowed-has s r a is f h n (variable s n) (variable r n) d (f.variables n (domain_made s n d has)) refl has)
  | inr (i, e, b) ↦ subst (λ (y : Item). IsTrue (has_value (ahead r y) (value_of a y))) (sym e) (has_in (only i) (ahead r (Item.Int i)) i (sym (ahead-integer r i b)) (only-has i))
]

before-value : (s r : State) (a : ℕ → ℤ) → IsState r → MaySettle s → IsStable s r → Solves r a → (x : Item) → Counts s x → IsTrue (has_value (given s x) (value_of a x))
before-value s r a is may f h x counts = ahead-given s r is.acyclic f x (value_of a x) (ahead-value s r a is may f h x counts)

before-bounded : (s r : State) (a : ℕ → ℤ) → IsState s → IsState r → MaySettle s → IsStable s r → Solves r a → (x : Item) → Counts s x → IsWithinBounds (value_of a x)
before-bounded s r a is is' may f h x counts = elim (counted s x may counts) [
  | inl (n, d, e, has) ↦
      let here : IsTrue (has_value (given s (Item.Var n)) (a n)) = subst (λ (y : Item). IsTrue (has_value (given s y) (value_of a y))) e (before-value s r a is' may f h x counts) in
      let inside : IsTrue (has_value d (a n)) = has_in (given s (Item.Var n)) d (a n) (ap domain_or_all has) here in
      subst (λ (y : Item). IsWithinBounds (value_of a y)) (sym e) (values_are_within_bounds d (a n) (domain_good s n d is has).0 inside)
  | inr (i, e, b) ↦ subst (λ (y : Item). IsWithinBounds (value_of a y)) (sym e) b
]

before-follows : (s r : State) (a : ℕ → ℤ) → IsState s → IsState r → IsStable s r → Solves r a → (n : ℕ) → value_of a (root_item s (Item.Var n)) ≡ a n
before-follows s r a is is' f h n = sym (root-value r a h (root_item s (Item.Var n))) ∙ (ap (value_of a) (later-root s r is is' f (Item.Var n)) ∙ h.follows n)

solved-before : (s r : State) (a : ℕ → ℤ) → IsState s → IsState r → MaySettle s → IsStable s r → Solves r a → Solves s a
solved-before s r a is is' may f h = record {
  follows = before-follows s r a is is' f h;
  values = before-value s r a is' may f h;
  bounded = before-bounded s r a is is' may f h;
  holds = λ c posted. h.holds c (subst (λ (cs : List Constraint). Contains cs c) (sym f.constraints) posted);
}

pub solutions_stay : SolutionsStay
solutions_stay s r a is may f = let is' : IsState r = stable_is_a_state s r is f in (solves-later s r a is is' may f, solved-before s r a is is' may f)
