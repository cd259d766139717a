-- What narrowing keeps: a state is a state, it may be settled still, and items come to what they came to or to integers.
use Rattle.std.specs.Prelude.{◌≡◌, ◌↔◌, ◌⊎◌, ℕ, ◌<◌, ℤ, IsTrue, List, length, slice_get, IsSomeAnd, Some, None, Contains, refl}
use Rattle.std.proofs.Common.{arith, sym, ◌∙◌, ap, subst, inl, inr}
use Rattle.std.proofs.lemmas.Option.{slice_get_within, get_or_from_slice_get}
use Rattle.pi_terms.specs.Tree.{Tree, int}
use Rattle.pi_terms.specs.Variables.{Occurs}
use Rattle.pi_terms.specs.Places.{held}
use Rattle.pi_constraints.specs.declared.constraint.Constraint.{Constraint}
use Rattle.pi_constraints.specs.declared.constraint.Item.{Item}
use Rattle.pi_constraints.specs.declared.domain.Span.{Span}
use Rattle.pi_constraints.specs.Domain.{IsWithinBounds, has_value}
use Rattle.pi_constraints.proofs.DomainLemmas.{values_are_within_bounds}
use Rattle.pi_prop_spec.specs.Places.{places_of}
use Rattle.pi_constraints.specs.State.{State, Agent, Variable, free, within, binding, bindings, next, domain_in, domain_of, SpeaksBelow, WatchBelow, IsVariable, MayPost, IsActivation, IsState}
use Rattle.pi_constraints.specs.declared.event.Activation.{Activation}
use Rattle.pi_constraints.proofs.StateLemmas.{variable, held_is, state_variable, domain_good}
use Rattle.pi_settling.specs.Roots.{root_item, only, given, domain_or_all}
use Rattle.pi_settling.specs.SettlingLaws.{MaySettle}
use Rattle.pi_settling.proofs.RootLemmas.{Kept, Items, root_later}
use Rattle.pi_settling.proofs.StableLemmas.{only-has, has-only}
use Rattle.pi_settling.proofs.TwiceLemmas.{past_free, less_or_not, item_by, unbound-root, integer-root, has_in, within_of}
use Rattle.pi_settling.proofs.UniqueLemmas.{domain_made}
use Rattle.pi_settling.specs.Narrowed.{NarrowsTo, left_free, left_bound, some_left, one_left, IsNarrowed}

-- ---- bindings

to-keeps : (K : ℤ → Type 0) (v w : Variable) (t : Tree) → NarrowsTo K v w → binding v ≡ Some t → binding w ≡ Some t
to-keeps K v w t left_free is = absurd (cc)
to-keeps K v w t (left_bound u) is = is
to-keeps K v w t (some_left d e p q all) is = absurd (cc)
to-keeps K v w t (one_left d i all) is = absurd (cc)

pub narrow-keeps : (K : ℕ → ℤ → Type 0) (s r : State) → IsNarrowed K s r → Kept (bindings s) (bindings r)
narrow-keeps K s r f n u is = elim (less_or_not n (next s)) [
  | inl l ↦ held_is r n ∙ to-keeps (K n) (variable s n) (variable r n) u (f.variables n l) (sym (held_is s n) ∙ is)
  | inr m ↦ absurd (let none : binding (variable s n) ≡ None = ap binding (past_free s n m) in let e : held (bindings s) n ≡ None = held_is s n ∙ none in cc)
]

to-item : (K : ℤ → Type 0) (v w : Variable) → NarrowsTo K v w → binding v ≡ None → (binding w ≡ None) ⊎ ((i : ℤ) × (binding w ≡ Some (int i)))
to-item K v w left_free is = inl refl
to-item K v w (left_bound u) is = absurd (cc)
to-item K v w (some_left d e p q all) is = inl refl
to-item K v w (one_left d i all) is = inr (i, refl)

at-held : (r : State) (n : ℕ) → (binding (variable r n) ≡ None) ⊎ ((i : ℤ) × (binding (variable r n) ≡ Some (int i))) → (held (bindings r) n ≡ None) ⊎ ((i : ℤ) × (held (bindings r) n ≡ Some (int i)))
at-held r n (inl is) = inl (held_is r n ∙ is)
at-held r n (inr (i, is)) = inr (i, held_is r n ∙ is)

-- ---- a state

integer-speaks : (n : ℕ) (i : ℤ) → SpeaksBelow n (int i)
unfolding Occurs
integer-speaks n i m h = absurd h

to-falls : (s : State) (is : IsState s) (n m : ℕ) (K : ℤ → Type 0) (v w : Variable) (u : Tree) → NarrowsTo K v w → variable s n ≡ v → binding w ≡ Some u → Occurs m u → is.acyclic.rank m < is.acyclic.rank n
unfolding Occurs
to-falls s is n m K v w u left_free at e h = absurd cc
to-falls s is n m K v w u (left_bound t) at e h = is.acyclic.falls n m u (held_is s n ∙ (ap binding at ∙ e)) h
to-falls s is n m K v w u (some_left d f p q all) at e h = absurd cc
to-falls s is n m K v w u (one_left d i all) at e h =
    let same : int i ≡ u = cc in
    absurd (subst (λ (t : Tree). Occurs m t → ⊥) same (λ x. x) h)

to-variable : (many : ℕ) (K : ℤ → Type 0) (v w : Variable) → NarrowsTo K v w → IsVariable many v → IsVariable many w
to-variable many K v w left_free good = tt
to-variable many K v w (left_bound t) good = good
to-variable many K v w (some_left d e p q all) good = (p, q)
to-variable many K v w (one_left d i all) good = integer-speaks many i

narrow-falls : (K : ℕ → ℤ → Type 0) (s r : State) (is : IsState s) → IsNarrowed K s r → (n m : ℕ) (u : Tree) → held (bindings r) n ≡ Some u → Occurs m u → is.acyclic.rank m < is.acyclic.rank n
narrow-falls K s r is f n m u e h = elim (less_or_not n (next s)) [
  | inl l ↦ to-falls s is n m (K n) (variable s n) (variable r n) u (f.variables n l) refl (sym (held_is r n) ∙ e) h
  | inr past ↦ absurd (let none : binding (variable r n) ≡ None = ap binding (past_free r n (let same = f.count in omega arith)) in let held_none : held (bindings r) n ≡ None = held_is r n ∙ none in cc)
]

pub narrow-state : (K : ℕ → ℤ → Type 0) (s r : State) → IsState s → IsNarrowed K s r → IsState r
narrow-state K s r is f =
    let many : next s ≡ next r = sym f.count in
    record {
      acyclic = record { rank = is.acyclic.rank; falls = narrow-falls K s r is f };
      variables = λ n w got.
          let within_r : n < next r = slice_get_within r.variables n w got in
          let inside : n < next s = subst (λ (k : ℕ). n < k) (sym many) within_r in
          let here : variable r n ≡ w = get_or_from_slice_get r.variables n w free got in
          let good : IsVariable (next s) (variable r n) = to-variable (next s) (K n) (variable s n) (variable r n) (f.variables n inside) (state_variable s n is inside) in
          subst (λ (k : ℕ). IsVariable k w) many (subst (IsVariable (next s)) here good);
      constraints = λ k c got.
          let old : MayPost s c = is.constraints k c (subst (λ (cs : List Constraint). slice_get cs k ≡ Some c) f.constraints got) in
          (old.0, λ m speaks. subst (λ (z : ℕ). m < z) many (old.1 m speaks));
      agents = λ k a got.
          let old : SpeaksBelow (next s) a.call × WatchBelow (next s) a.watches = is.agents k a (subst (λ (list : List Agent). slice_get list k ≡ Some a) f.agents got) in
          (subst (λ (z : ℕ). SpeaksBelow z a.call) many old.0, subst (λ (z : ℕ). WatchBelow z a.watches) many old.1);
      waiting = λ k a got.
          let old : IsActivation s a = is.waiting k a (subst (λ (list : List Activation). slice_get list k ≡ Some a) f.waiting got) in
          record {
            made = subst (λ (list : List Agent). IsSomeAnd (slice_get list a.agent) (λ agent. a.watch < length agent.watches)) (sym f.agents) old.made;
            value = λ t e. subst (λ (z : ℕ). SpeaksBelow z t) many (old.value t e);
          };
    }

-- ---- items

pub narrow-items : (K : ℕ → ℤ → Type 0) (s r : State) → IsState s → IsNarrowed K s r → Items (bindings s) (bindings r)
narrow-items K s r is f n e = item_by (bindings r) n (narrow-state K s r is f).acyclic (at-held r n (elim (less_or_not n (next s)) [
  | inl l ↦ to-item (K n) (variable s n) (variable r n) (f.variables n l) (sym (held_is s n) ∙ e)
  | inr m ↦ inl (ap binding (past_free r n (let same = f.count in omega arith)))
]))

pub narrow-root : (K : ℕ → ℤ → Type 0) (s r : State) → IsState s → IsNarrowed K s r → (x : Item) → root_item r (root_item s x) ≡ root_item r x
narrow-root K s r is f x = root_later s r is.acyclic (narrow-state K s r is f).acyclic (narrow-keeps K s r f) (narrow-items K s r is f) x

-- what an item that settling may go on with comes to
pub data Comes (s : State) (x : Item) : Type 0 where
  to_variable : (n : ℕ) (d : List Span) → x ≡ Item.Var n → domain_of s n ≡ Some d → Comes s x
  to_integer : (i : ℤ) → x ≡ Item.Int i → IsWithinBounds i → Comes s x

pub comes : (s : State) → MaySettle s → (c : Constraint) (y : Item) → Contains s.constraints c → Contains (places_of c) y → Comes s (root_item s y)
comes s may c y posted at = elim (may c y posted at) [
  | inl (n, d, e, has) ↦ to_variable n d e has
  | inr (i, e, b) ↦ to_integer i e b
]

pub unbound-domain : (s : State) (n : ℕ) (d : List Span) → domain_of s n ≡ Some d → (root_item s (Item.Var n) ≡ Item.Var n) × (given s (Item.Var n) ≡ d)
unbound-domain s n d has = (unbound-root s n (ap binding (within_of (variable s n) d has)), ap domain_or_all has)

to-values : (K : ℕ → ℤ → Type 0) (s r : State) (n : ℕ) (d : List Span) (v w : Variable) → IsState s → IsNarrowed K s r → NarrowsTo (K n) v w → v ≡ within d → variable r n ≡ w → (i : ℤ) →
    IsTrue (has_value (given r (root_item r (Item.Var n))) i) ↔ (IsTrue (has_value d i) × K n i)
to-values K s r n d v w is f left_free e at i = absurd (cc)
to-values K s r n d v w is f (left_bound t) e at i = absurd (cc)
to-values K s r n d v w is f (some_left d' f' p q all) e at i =
    let same : d' ≡ d = cc in
    let there : given r (root_item r (Item.Var n)) ≡ f' = ap (given r) (unbound-root r n (ap binding at)) ∙ ap (λ (u : Variable). domain_or_all (domain_in u)) at in
    let both : IsTrue (has_value f' i) ↔ (IsTrue (has_value d i) × K n i) = subst (λ (g : List Span). IsTrue (has_value f' i) ↔ (IsTrue (has_value g i) × K n i)) same (all i) in
    subst (λ (g : List Span). IsTrue (has_value g i) ↔ (IsTrue (has_value d i) × K n i)) (sym there) both
to-values K s r n d v w is f (one_left d' j all) e at i =
    let same : d' ≡ d = cc in
    let there : given r (root_item r (Item.Var n)) ≡ only j = ap (given r) (integer-root r n j (narrow-state K s r is f).acyclic (ap binding at)) in
    let both : (i ≡ j) ↔ (IsTrue (has_value d i) × K n i) = subst (λ (g : List Span). (i ≡ j) ↔ (IsTrue (has_value g i) × K n i)) same (all i) in
    subst (λ (g : List Span). IsTrue (has_value g i) ↔ (IsTrue (has_value d i) × K n i)) (sym there)
    ((λ h. both.0 (has-only j i h), λ h. subst (λ (z : ℤ). IsTrue (has_value (only j) z)) (sym (both.1 h)) (only-has j)))

-- the values that a variable with a domain is left
pub left-values : (K : ℕ → ℤ → Type 0) (s r : State) (n : ℕ) (d : List Span) → IsState s → IsNarrowed K s r → domain_of s n ≡ Some d → (i : ℤ) →
    IsTrue (has_value (given r (root_item r (Item.Var n))) i) ↔ (IsTrue (has_value d i) × K n i)
left-values K s r n d is f has i = to-values K s r n d (variable s n) (variable r n) is f (f.variables n (domain_made s n d has)) (within_of (variable s n) d has) refl i

to-comes : (K : ℕ → ℤ → Type 0) (s r : State) (n : ℕ) (d : List Span) (v w : Variable) → IsState s → IsState r → domain_of s n ≡ Some d → NarrowsTo (K n) v w → v ≡ within d → variable r n ≡ w → Comes r (root_item r (Item.Var n))
to-comes K s r n d v w is is' has left_free e at = absurd (cc)
to-comes K s r n d v w is is' has (left_bound t) e at = absurd (cc)
to-comes K s r n d v w is is' has (some_left d' f' p q all) e at = to_variable n f' (unbound-root r n (ap binding at)) (ap domain_in at)
to-comes K s r n d v w is is' has (one_left d' j all) e at =
    let same : d' ≡ d = cc in
    let here : IsTrue (has_value d j) = has_in d' d j same ((all j).0 refl).0 in
    to_integer j (integer-root r n j is'.acyclic (ap binding at)) (values_are_within_bounds d j (domain_good s n d is has).0 here)

pub item-comes : (K : ℕ → ℤ → Type 0) (s r : State) → IsState s → IsNarrowed K s r → (x : Item) → Comes s x → Comes r (root_item r x)
item-comes K s r is f x (to_variable n d e has) =
    subst (λ (y : Item). Comes r (root_item r y)) (sym e)
    (to-comes K s r n d (variable s n) (variable r n) is (narrow-state K s r is f) has (f.variables n (domain_made s n d has)) (within_of (variable s n) d has) refl)
item-comes K s r is f x (to_integer i e b) = to_integer i (ap (root_item r) e) b

may-from : (r : State) (x : Item) → Comes r x → ((n : ℕ) × (d : List Span) × (x ≡ Item.Var n) × (domain_of r n ≡ Some d)) ⊎ ((i : ℤ) × (x ≡ Item.Int i) × IsWithinBounds i)
may-from r x (to_variable n d e has) = inl (n, d, e, has)
may-from r x (to_integer i e b) = inr (i, e, b)

pub narrow-settles : (K : ℕ → ℤ → Type 0) (s r : State) → IsState s → MaySettle s → IsNarrowed K s r → MaySettle r
narrow-settles K s r is may f c y posted at =
    let before : Contains s.constraints c = subst (λ (cs : List Constraint). Contains cs c) f.constraints posted in
    may-from r (root_item r y) (subst (Comes r) (narrow-root K s r is f y) (item-comes K s r is f (root_item s y) (comes s may c y before at)))

-- ---- an item that comes to a variable came to it before

root-again : (K : ℕ → ℤ → Type 0) (s r : State) (n m : ℕ) (d : List Span) (v w : Variable) → IsState s → IsNarrowed K s r → NarrowsTo (K m) v w → v ≡ within d → variable r m ≡ w → (x : Item) → x ≡ Item.Var m →
    root_item r x ≡ Item.Var n → x ≡ Item.Var n
root-again K s r n m d v w is f left_free e at x here same = absurd (cc)
root-again K s r n m d v w is f (left_bound t) e at x here same = absurd (cc)
root-again K s r n m d v w is f (some_left d' f' p q all) e at x here same = here ∙ (sym (unbound-root r m (ap binding at)) ∙ (ap (root_item r) (sym here) ∙ same))
root-again K s r n m d v w is f (one_left d' j all) e at x here same =
    absurd (let h : root_item r x ≡ Item.Int j = ap (root_item r) here ∙ integer-root r m j (narrow-state K s r is f).acyclic (ap binding at) in let h' : Item.Int j ≡ Item.Var n = sym h ∙ same in cc)

pub root-before : (K : ℕ → ℤ → Type 0) (s r : State) → IsState s → IsNarrowed K s r → (x : Item) (n : ℕ) → Comes s x → root_item r x ≡ Item.Var n → x ≡ Item.Var n
root-before K s r is f x n (to_variable m d e has) same = root-again K s r n m d (variable s m) (variable r m) is f (f.variables m (domain_made s m d has)) (within_of (variable s m) d has) refl x e same
root-before K s r is f x n (to_integer i e b) same = absurd (let h : root_item r x ≡ Item.Int i = ap (root_item r) e in let h' : Item.Int i ≡ Item.Var n = sym h ∙ same in cc)
