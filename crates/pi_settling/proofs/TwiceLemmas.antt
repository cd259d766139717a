-- A stable state is its own stable state.
use Rattle.std.specs.Prelude.{◌≡◌, ◌↔◌, ◌⊎◌, ℕ, ◌<◌, ◌≤◌, ℤ, IsTrue, List, [], ◌∷◌, map, Some, None, Contains, refl}
use Rattle.std.proofs.Common.{arith, sym, ◌∙◌, ap, subst, inl, inr}
use Rattle.std.proofs.lemmas.Int.{ints}
use Rattle.std.proofs.lemmas.List.{get_or_past}
use Rattle.pi_terms.specs.Tree.{Tree, var, int}
use Rattle.pi_terms.specs.Places.{held}
use Rattle.pi_constraints.specs.declared.constraint.Constraint.{Constraint}
use Rattle.pi_constraints.specs.declared.constraint.Item.{Item}
use Rattle.pi_constraints.specs.declared.domain.Span.{Span}
use Rattle.pi_constraints.specs.Domain.{IsWithinBounds, AscendFrom, IsDomain, has_value, size_of}
use Rattle.pi_constraints.proofs.DomainLemmas.{values_are_within_bounds}
use Rattle.pi_prop_spec.specs.Places.{places_of, domain_at}
use Rattle.pi_prop_spec.specs.Filter.{Leaves}
use Rattle.pi_constraints.specs.Value.{Bindings, IsAcyclic, value}
use Rattle.pi_constraints.specs.State.{State, Variable, free, within, bound, binding, bindings, next, domain_in, domain_of, IsState}
use Rattle.pi_constraints.proofs.FollowLemmas.{followed_itself}
use Rattle.pi_constraints.proofs.StateLemmas.{variable, held_is}
use Rattle.pi_constraints.proofs.ValueLemmas.{unbound_is_its_own_value, bound_has_value_of_its_term}
use Rattle.pi_constraints.proofs.RootLemmas.{value_int}
use Rattle.pi_settling.specs.Roots.{root_item, item_of, only, all_values, domain_or_all, given, Counts, by_domain, by_place}
use Rattle.pi_settling.specs.Stable.{Domains, at_places, LieBelow, NoFilterChanges, Stays, Narrows, stays_free, stays_bound, some_stay, one_stays, IsStable}
use Rattle.pi_settling.specs.SettlingLaws.{MaySettle, StableStaysStable}
use Rattle.pi_settling.proofs.RootLemmas.{root-by_value, IsItem, is_variable, is_integer, Kept, Items, root_later}
use Rattle.pi_settling.proofs.StableLemmas.{only-has, has-only, just, just-domain, just-is, just-below, stable_is_unchanged}
use Rattle.pi_settling.proofs.UniqueLemmas.{domain_made}

-- ---- what one variable becomes

narrows_at : (s r : State) (n : ℕ) → IsStable s r → n < next s → Narrows s n (variable s n) (variable r n)
narrows_at s r n f l = f.variables n l

narrowed-keeps : (s : State) (n : ℕ) (v w : Variable) (t : Tree) → Narrows s n v w → binding v ≡ Some t → binding w ≡ Some t
narrowed-keeps s n v w t stays_free is = absurd (cc)
narrowed-keeps s n v w t (stays_bound u) is = is
narrowed-keeps s n v w t (some_stay d e p q all) is = absurd (cc)
narrowed-keeps s n v w t (one_stays d i all) is = absurd (cc)

pub past_free : (s : State) (n : ℕ) → next s ≤ n → variable s n ≡ free
past_free s n l = get_or_past s.variables n free l

pub less_or_not : (m n : ℕ) → (m < n) ⊎ (n ≤ m)
less_or_not m n = grind arith

pub stable-keeps : (s r : State) → IsStable s r → Kept (bindings s) (bindings r)
stable-keeps s r f n u is = elim (less_or_not n (next s)) [
  | inl l ↦ held_is r n ∙ narrowed-keeps s n (variable s n) (variable r n) u (f.variables n l) (sym (held_is s n) ∙ is)
  | inr m ↦ absurd (let none : binding (variable s n) ≡ None = ap binding (past_free s n m) in let e : held (bindings s) n ≡ None = held_is s n ∙ none in cc)
]

-- a variable that was unbound is unbound or an integer
narrowed-item : (s : State) (n : ℕ) (v w : Variable) → Narrows s n v w → binding v ≡ None → (binding w ≡ None) ⊎ ((i : ℤ) × (binding w ≡ Some (int i)))
narrowed-item s n v w stays_free is = inl refl
narrowed-item s n v w (stays_bound u) is = absurd (cc)
narrowed-item s n v w (some_stay d e p q all) is = inl refl
narrowed-item s n v w (one_stays d i all) is = inr (i, refl)

pub item_by : (b : Bindings) (n : ℕ) → IsAcyclic b → (held b n ≡ None) ⊎ ((i : ℤ) × (held b n ≡ Some (int i))) → IsItem (value b (var n))
item_by b n a (inl is) = subst IsItem (sym (unbound_is_its_own_value b n is)) (is_variable n)
item_by b n a (inr (i, is)) = subst IsItem (sym (bound_has_value_of_its_term b n (int i) a is ∙ value_int b i)) (is_integer i)

at_held : (r : State) (n : ℕ) → (binding (variable r n) ≡ None) ⊎ ((i : ℤ) × (binding (variable r n) ≡ Some (int i))) → (held (bindings r) n ≡ None) ⊎ ((i : ℤ) × (held (bindings r) n ≡ Some (int i)))
at_held r n (inl is) = inl (held_is r n ∙ is)
at_held r n (inr (i, is)) = inr (i, held_is r n ∙ is)

pub stable-items : (s r : State) → IsAcyclic (bindings r) → IsStable s r → Items (bindings s) (bindings r)
stable-items s r a f n is = item_by (bindings r) n a (at_held r n (elim (less_or_not n (next s)) [
  | inl l ↦ narrowed-item s n (variable s n) (variable r n) (f.variables n l) (sym (held_is s n) ∙ is)
  | inr m ↦ inl (ap binding (past_free r n (let e = f.count in omega arith)))
]))

-- ---- the domains that are left

pub all-domain : IsDomain all_values
unfolding AscendFrom
all-domain = (omega (arith, ints), omega (arith, ints), omega (arith, ints), tt)

all-has : (i : ℤ) → IsWithinBounds i → IsTrue (has_value all_values i)
unfolding has_value
all-has i h = grind (arith, ints, h.0, h.1)

narrowed-domain : (s : State) (n : ℕ) (v w : Variable) → Narrows s n v w → IsDomain (domain_or_all (domain_in w))
narrowed-domain s n v w stays_free = all-domain
narrowed-domain s n v w (stays_bound t) = all-domain
narrowed-domain s n v w (some_stay d e p q all) = p
narrowed-domain s n v w (one_stays d i all) = all-domain

given-domain : (s r : State) (n : ℕ) → IsStable s r → IsDomain (given r (Item.Var n))
given-domain s r n f = elim (less_or_not n (next s)) [
  | inl l ↦ narrowed-domain s n (variable s n) (variable r n) (f.variables n l)
  | inr m ↦ subst (λ (v : Variable). IsDomain (domain_or_all (domain_in v))) (sym (past_free r n (let e = f.count in omega arith))) all-domain
]

-- of the items as they come in the stable state
unfoldable pub left : State → Domains
left r (Item.Var n) = given r (Item.Var n)
left r (Item.Int i) = just (only i) i

left-domain : (s r : State) → IsStable s r → (x : Item) → IsDomain (left r x)
unfolding left
left-domain s r f (Item.Var n) = given-domain s r n f
left-domain s r f (Item.Int i) = just-domain (only i) i

pub left-given : (r : State) (x : Item) (i : ℤ) → IsTrue (has_value (left r x) i) → IsTrue (has_value (given r x) i)
unfolding left
left-given r (Item.Var n) i h = h
left-given r (Item.Int j) i h = just-below (only j) j i h

left-below : (s r : State) → IsStable s r → LieBelow r (left r)
left-below s r f = record { domains = left-domain s r f; below = left-given r }

-- of the items as they come in the state before
unfoldable pub ahead : State → Domains
ahead r x = left r (root_item r x)

-- ---- they are what stays

pub stays-bounded : (s : State) (x : Item) (i : ℤ) → Stays s x i → IsWithinBounds i
stays-bounded s x i st = values_are_within_bounds (st.domains x) i (st.below.domains x) st.has

pub unbound-root : (r : State) (n : ℕ) → binding (variable r n) ≡ None → root_item r (Item.Var n) ≡ Item.Var n
unbound-root r n is = ap (item_of n) (followed_itself (bindings r) n (held_is r n ∙ is))

pub integer-root : (r : State) (n : ℕ) (i : ℤ) → IsAcyclic (bindings r) → binding (variable r n) ≡ Some (int i) → root_item r (Item.Var n) ≡ Item.Int i
integer-root r n i a is = root-by_value (bindings r) n a ∙ ap (item_of n) (bound_has_value_of_its_term (bindings r) n (int i) a (held_is r n ∙ is) ∙ value_int (bindings r) i)

pub ahead-some : (r : State) (n : ℕ) (e : List Span) → variable r n ≡ within e → ahead r (Item.Var n) ≡ e
unfolding ahead left
ahead-some r n e is = ap (left r) (unbound-root r n (ap binding is)) ∙ ap (λ (v : Variable). domain_or_all (domain_in v)) is

pub ahead-one : (r : State) (n : ℕ) (i : ℤ) → IsAcyclic (bindings r) → IsWithinBounds i → variable r n ≡ bound (int i) → ahead r (Item.Var n) ≡ only i
unfolding ahead left
ahead-one r n i a b is = ap (left r) (integer-root r n i a (ap binding is)) ∙ just-is (only i) i (only-has i) b

pub ahead-integer : (r : State) (i : ℤ) → IsWithinBounds i → ahead r (Item.Int i) ≡ only i
unfolding ahead left
ahead-integer r i b = just-is (only i) i (only-has i) b

pub has_in : (d e : List Span) (i : ℤ) → d ≡ e → IsTrue (has_value d i) → IsTrue (has_value e i)
has_in d e i same h = subst (λ (f : List Span). IsTrue (has_value f i)) same h

narrowed-ahead : (s r : State) (n : ℕ) (v w : Variable) (d : List Span) (i : ℤ) → IsAcyclic (bindings r) → Narrows s n v w → variable r n ≡ w → domain_in v ≡ Some d →
    IsTrue (has_value (ahead r (Item.Var n)) i) ↔ Stays s (Item.Var n) i
narrowed-ahead s r n v w d i a stays_free is e = absurd (cc)
narrowed-ahead s r n v w d i a (stays_bound t) is e = absurd (cc)
narrowed-ahead s r n v w d i a (some_stay d' f p q all) is e =
    let same : ahead r (Item.Var n) ≡ f = ahead-some r n f is in
    (λ h. (all i).0 (has_in (ahead r (Item.Var n)) f i same h), λ st. has_in f (ahead r (Item.Var n)) i (sym same) ((all i).1 st))
narrowed-ahead s r n v w d i a (one_stays d' j all) is e =
    let same : ahead r (Item.Var n) ≡ only j = ahead-one r n j a (stays-bounded s (Item.Var n) j ((all j).0 refl)) is in (
      λ h. (all i).0 (has-only j i (has_in (ahead r (Item.Var n)) (only j) i same h)),
      λ st. has_in (only j) (ahead r (Item.Var n)) i (sym same) (subst (λ (z : ℤ). IsTrue (has_value (only j) z)) (sym ((all i).1 st)) (only-has j)),
    )

pub variable-ahead : (s r : State) (n : ℕ) (d : List Span) (i : ℤ) → IsAcyclic (bindings r) → IsStable s r → domain_of s n ≡ Some d → IsTrue (has_value (ahead r (Item.Var n)) i) ↔ Stays s (Item.Var n) i
variable-ahead s r n d i a f e = narrowed-ahead s r n (variable s n) (variable r n) d i a (f.variables n (domain_made s n d e)) refl e

stays-integer : (s : State) (j i : ℤ) → Stays s (Item.Int j) i → i ≡ j
stays-integer s j i st = has-only j i (st.below.below (Item.Int j) i st.has)

integer-ahead : (s r : State) (j i : ℤ) → IsStable s r → Counts s (Item.Int j) → IsWithinBounds j → IsTrue (has_value (ahead r (Item.Int j)) i) ↔ Stays s (Item.Int j) i
integer-ahead s r j i f counts b =
    let same : ahead r (Item.Int j) ≡ only j = ahead-integer r j b in
    let kept = f.kept (Item.Int j) counts in
    let here : Stays s (Item.Int j) j = subst (Stays s (Item.Int j)) (stays-integer s j kept.0 kept.1) kept.1 in (
      λ h. subst (Stays s (Item.Int j)) (sym (has-only j i (has_in (ahead r (Item.Int j)) (only j) i same h))) here,
      λ st. has_in (only j) (ahead r (Item.Int j)) i (sym same) (subst (λ (z : ℤ). IsTrue (has_value (only j) z)) (sym (stays-integer s j i st)) (only-has j)),
    )

-- an item that counts is a variable with a domain, or an integer
pub counted : (s : State) (x : Item) → MaySettle s → Counts s x → ((n : ℕ) × (d : List Span) × (x ≡ Item.Var n) × (domain_of s n ≡ Some d)) ⊎ ((i : ℤ) × (x ≡ Item.Int i) × IsWithinBounds i)
counted s x may (by_domain n d e is) = inl (n, d, e, is)
counted s x may (by_place c y posted at e) = elim (may c y posted at) [
  | inl (n, d, f, is) ↦ inl (n, d, e ∙ f, is)
  | inr (i, f, b) ↦ inr (i, e ∙ f, b)
]

pub ahead-stays : (s r : State) (x : Item) (i : ℤ) → IsAcyclic (bindings r) → MaySettle s → IsStable s r → Counts s x → IsTrue (has_value (ahead r x) i) ↔ Stays s x i
ahead-stays s r x i a may f counts = elim (counted s x may counts) [
  | inl (n, d, e, is) ↦ subst (λ (y : Item). IsTrue (has_value (ahead r y) i) ↔ Stays s y i) (sym e) (variable-ahead s r n d i a f is)
  | inr (j, e, b) ↦ subst (λ (y : Item). IsTrue (has_value (ahead r y) i) ↔ Stays s y i) (sym e) (integer-ahead s r j i f (subst (Counts s) e counts) b)
]

-- ---- they lie below, and no filter changes them

narrowed-given : (s r : State) (n : ℕ) (v w : Variable) (i : ℤ) → IsAcyclic (bindings r) → Narrows s n v w → variable s n ≡ v → variable r n ≡ w → IsDomain (ahead r (Item.Var n)) →
    IsTrue (has_value (ahead r (Item.Var n)) i) → IsTrue (has_value (given s (Item.Var n)) i)
unfolding ahead left
narrowed-given s r n v w i a stays_free at is up h =
    let same : given s (Item.Var n) ≡ all_values = ap (λ (u : Variable). domain_or_all (domain_in u)) at in
    has_in all_values (given s (Item.Var n)) i (sym same) (all-has i (values_are_within_bounds (ahead r (Item.Var n)) i up h))
narrowed-given s r n v w i a (stays_bound t) at is up h =
    let same : given s (Item.Var n) ≡ all_values = ap (λ (u : Variable). domain_or_all (domain_in u)) at in
    has_in all_values (given s (Item.Var n)) i (sym same) (all-has i (values_are_within_bounds (ahead r (Item.Var n)) i up h))
narrowed-given s r n v w i a (some_stay d e p q all) at is up h =
    let st : Stays s (Item.Var n) i = (narrowed-ahead s r n v w d i a (some_stay d e p q all) is refl).0 h in
    st.below.below (Item.Var n) i st.has
narrowed-given s r n v w i a (one_stays d j all) at is up h =
    let st : Stays s (Item.Var n) i = (narrowed-ahead s r n v w d i a (one_stays d j all) is refl).0 h in
    st.below.below (Item.Var n) i st.has

pub ahead-given : (s r : State) → IsAcyclic (bindings r) → IsStable s r → (x : Item) (i : ℤ) → IsTrue (has_value (ahead r x) i) → IsTrue (has_value (given s x) i)
unfolding ahead left
ahead-given s r a f (Item.Int j) i h = just-below (only j) j i h
ahead-given s r a f (Item.Var n) i h =
    let up : IsDomain (ahead r (Item.Var n)) = left-domain s r f (root_item r (Item.Var n)) in
    elim (less_or_not n (next s)) [
      | inl l ↦ narrowed-given s r n (variable s n) (variable r n) i a (f.variables n l) refl refl up h
      | inr m ↦ has_in all_values (given s (Item.Var n)) i (sym (ap (λ (u : Variable). domain_or_all (domain_in u)) (past_free s n m))) (all-has i (values_are_within_bounds (ahead r (Item.Var n)) i up h))
    ]

ahead-below : (s r : State) → IsAcyclic (bindings r) → IsStable s r → LieBelow s (ahead r)
unfolding ahead
ahead-below s r a f = record { domains = λ x. left-domain s r f (root_item r x); below = ahead-given s r a f }

ahead-unchanged : (s r : State) → IsAcyclic (bindings r) → MaySettle s → IsStable s r → NoFilterChanges s (ahead r)
ahead-unchanged s r a may f = stable_is_unchanged s (ahead r) (ahead-below s r a f) (λ x i counts st. (ahead-stays s r x i a may f counts).1 st) (λ x i counts h. (ahead-stays s r x i a may f counts).0 h)

pub same_map : (f g : Item → List Span) → ((x : Item) → f x ≡ g x) → (xs : List Item) → map f xs ≡ map g xs
same_map f g same [] = refl
same_map f g same (x ∷ xs) =
    let here : f x ≡ g x = same x in
    let rest : map f xs ≡ map g xs = same_map f g same xs in
    cc

pub later-root : (s r : State) → IsState s → IsState r → IsStable s r → (x : Item) → root_item r (root_item s x) ≡ root_item r x
later-root s r is is' f x = root_later s r is.acyclic is'.acyclic (stable-keeps s r f) (stable-items s r is'.acyclic f) x

same-places : (s r : State) (c : Constraint) → IsState s → IsState r → IsStable s r → at_places s (ahead r) c ≡ at_places r (left r) c
unfolding ahead
same-places s r c is is' f = same_map (λ x. left r (root_item r (root_item s x))) (λ x. left r (root_item r x)) (λ x. ap (left r) (later-root s r is is' f x)) (places_of c)

pub left-unchanged : (s r : State) → IsState s → IsState r → MaySettle s → IsStable s r → NoFilterChanges r (left r)
left-unchanged s r is is' may f c k i posted l h =
    let same : at_places s (ahead r) c ≡ at_places r (left r) c = same-places s r c is is' f in
    let before : Contains s.constraints c = subst (λ (cs : List Constraint). Contains cs c) f.constraints posted in
    subst (λ (ds : List (List Span)). Leaves c ds k i) same
    (ahead-unchanged s r is'.acyclic may f c k i before l (subst (λ (ds : List (List Span)). IsTrue (has_value (domain_at ds k) i)) (sym same) h))

-- ---- a stable state is stable

stays-left : (s r : State) → IsState s → IsState r → MaySettle s → IsStable s r → (x : Item) (i : ℤ) → IsTrue (has_value (left r x) i) → Stays r x i
stays-left s r is is' may f x i h = record { domains = left r; below = left-below s r f; unchanged = left-unchanged s r is is' may f; has = h }

pub narrowed-within : (s : State) (n : ℕ) (v w : Variable) (e : List Span) → Narrows s n v w → w ≡ within e → IsDomain e × (2 ≤ size_of e) × ((d : List Span) × (domain_in v ≡ Some d))
narrowed-within s n v w e stays_free is = absurd (cc)
narrowed-within s n v w e (stays_bound t) is = absurd (cc)
narrowed-within s n v w e (some_stay d f p q all) is =
    let same : f ≡ e = cc in
    (subst IsDomain same p, subst (λ (g : List Span). 2 ≤ size_of g) same q, (d, refl))
narrowed-within s n v w e (one_stays d i all) is = absurd (cc)

left-within : (r : State) (n : ℕ) (e : List Span) → variable r n ≡ within e → left r (Item.Var n) ≡ e
unfolding left
left-within r n e is = ap (λ (v : Variable). domain_or_all (domain_in v)) is

again-variable : (s r : State) → IsState s → IsState r → MaySettle s → IsStable s r → (n : ℕ) → n < next s → (w : Variable) → variable r n ≡ w → Narrows r n w w
again-variable s r is is' may f n l free at = stays_free
again-variable s r is is' may f n l (bound t) at = stays_bound t
again-variable s r is is' may f n l (within e) at =
    let was = narrowed-within s n (variable s n) (variable r n) e (f.variables n l) at in
    some_stay e e was.0 was.1 (λ i. (
      λ h. stays-left s r is is' may f (Item.Var n) i (has_in e (left r (Item.Var n)) i (sym (left-within r n e at)) h),
      λ st. has_in (given r (Item.Var n)) e i (ap (λ (v : Variable). domain_or_all (domain_in v)) at) (st.below.below (Item.Var n) i st.has),
    ))

pub within_of : (v : Variable) (e : List Span) → domain_in v ≡ Some e → v ≡ within e
within_of free e is = absurd (cc)
within_of (within d) e is = let same : d ≡ e = cc in ap within same
within_of (bound t) e is = absurd (cc)

again-kept : (s r : State) → IsState s → IsState r → MaySettle s → IsStable s r → (x : Item) → Counts r x → (i : ℤ) × Stays r x i
unfolding ahead
again-kept s r is is' may f x (by_domain n e same has) =
    let l : n < next s = (let made = domain_made r n e has in let count = f.count in omega arith) in
    let at : variable r n ≡ within e = within_of (variable r n) e has in
    let was = narrowed-within s n (variable s n) (variable r n) e (f.variables n l) at in
    let kept = f.kept (Item.Var n) (by_domain n was.2.0 refl was.2.1) in
    let there : IsTrue (has_value (ahead r (Item.Var n)) kept.0) = (variable-ahead s r n was.2.0 kept.0 is'.acyclic f was.2.1).1 kept.1 in
    let here : IsTrue (has_value (left r (Item.Var n)) kept.0) = has_in (ahead r (Item.Var n)) (left r (Item.Var n)) kept.0 (ap (left r) (unbound-root r n (ap binding at))) there in
    (kept.0, subst (λ (y : Item). Stays r y kept.0) (sym same) (stays-left s r is is' may f (Item.Var n) kept.0 here))
again-kept s r is is' may f x (by_place c y posted at same) =
    let before : Contains s.constraints c = subst (λ (cs : List Constraint). Contains cs c) f.constraints posted in
    let counts : Counts s (root_item s y) = by_place c y before at refl in
    let kept = f.kept (root_item s y) counts in
    let there : IsTrue (has_value (ahead r (root_item s y)) kept.0) = (ahead-stays s r (root_item s y) kept.0 is'.acyclic may f counts).1 kept.1 in
    let here : IsTrue (has_value (left r x) kept.0) = has_in (ahead r (root_item s y)) (left r x) kept.0 (ap (left r) (later-root s r is is' f y ∙ sym same)) there in
    (kept.0, stays-left s r is is' may f x kept.0 here)

pub stable_stays_stable : StableStaysStable
stable_stays_stable s r is is' may f = record {
  kept = again-kept s r is is' may f;
  count = refl;
  variables = λ n l. again-variable s r is is' may f n (let e = f.count in omega arith) (variable r n) refl;
  constraints = refl;
  agents = refl;
  waiting = refl;
}
