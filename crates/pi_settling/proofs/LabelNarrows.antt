-- What an alternative leaves of a state has the solutions whose value it allows.
use Rattle.std.specs.Prelude.{◌≡◌, ◌≢◌, ◌↔◌, ◌⊎◌, ℕ, ◌<◌, ℤ, pos, neg_ℤ, ◌+ℤ◌, ◌≤ℤ◌, int_le, Bool, true, false, cond, IsTrue, List, [], ◌∷◌, ◌++◌, Option, Some, None, refl}
use Rattle.std.specs.Int.{int_max, int_min}
use Rattle.std.proofs.Common.{arith, sym, ◌∙◌, ap, subst, inl, inr, append_assoc}
use Rattle.std.proofs.lemmas.Bool.{and_parts}
use Rattle.std.proofs.lemmas.Int.{ints, clamps}
use Rattle.pi_terms.specs.Tree.{int}
use Rattle.pi_terms.specs.Variables.{Occurs}
use Rattle.pi_terms.specs.Places.{held}
use Rattle.pi_constraints.specs.declared.constraint.Item.{Item}
use Rattle.pi_constraints.specs.declared.domain.Span.{Span}
use Rattle.pi_constraints.specs.declared.domain.TheConstants.{MAX_VALUE}
use Rattle.pi_constraints.specs.Domain.{IsWithinBounds, AscendFrom, IsDomain, has_value, values_of, overlap, shared, common}
use Rattle.pi_constraints.proofs.SpanLemmas.{AscendFrom-lower}
use Rattle.pi_constraints.proofs.DomainLemmas.{values_are_within_bounds}
use Rattle.pi_constraints.proofs.CommonLemmas.{no_value, first_value, one_value}
use Rattle.pi_prop_spec.specs.Solutions.{value_of}
use Rattle.pi_constraints.specs.State.{State, Variable, within, bound, binding, bindings, next, domain_of, with_variable, with_binding, with_domain, IsState}
use Rattle.pi_constraints.proofs.StateLemmas.{held_is, changed_here, same_or_not, domain_here, domain_elsewhere, domain_bindings, domain_unbound, domain_good, held_here, held_elsewhere}
use Rattle.pi_constraints.proofs.RootLemmas.{value_int}
use Rattle.pi_constraints.proofs.UnifyBindings.{bound_state}
use Rattle.pi_settling.specs.Roots.{root_item, domain_or_all, given, Counts, by_domain, by_place}
use Rattle.pi_settling.specs.Solves.{Solves}
use Rattle.pi_settling.specs.SettlingLaws.{MaySettle}
use Rattle.pi_settling.proofs.RootLemmas.{Kept, Items, root_later}
use Rattle.pi_settling.proofs.StableLemmas.{only-has, root-value}
use Rattle.pi_settling.proofs.TwiceLemmas.{unbound-root, integer-root, counted, item_by, has_in}
use Rattle.pi_settling.proofs.UniqueLemmas.{domain_made}
use Rattle.pi_settling.proofs.SolutionLemmas.{root-value_by}
use Rattle.pi_settling.specs.Choices.{Alternative, is_value, at_most, above, allows, from_to, left_by, with_values}
use Rattle.pi_settling.specs.LabelLaws.{NarrowingKeepsSolutions, LeftIsADomain}
use Rattle.pi_settling.proofs.LeftLemmas.{left_is_allowed}
use Rattle.pi_settling.proofs.ConfinedLemmas.{root-same}

-- ---- what is left of a domain is one

put-front : (least : ℤ) (s : Span) (rest : List Span) (b : Bool) → int_le s.lo s.hi ≡ b → least ≤ℤ s.lo → s.hi ≤ℤ MAX_VALUE → AscendFrom least rest → AscendFrom (s.hi +ℤ pos 2) rest →
    AscendFrom least (cond b (s ∷ []) [] ++ rest)
unfolding AscendFrom
put-front least s rest true e low high near far = let ordered : s.lo ≤ℤ s.hi = grind (arith, ints) in (low, ordered, high, far)
put-front least s rest false e low high near far = near

clipped : (least lo hi : ℤ) (d : List Span) → AscendFrom least d → AscendFrom least (common d (from_to lo hi))
unfolding AscendFrom common shared overlap
clipped least lo hi [] up = tt
clipped least lo hi (a ∷ d) up =
    let b : Span = record { lo = lo; hi = hi } in
    let s : Span = record { lo = int_max a.lo lo; hi = int_min a.hi hi } in
    let rest : AscendFrom (a.hi +ℤ pos 2) (common d (from_to lo hi)) = clipped (a.hi +ℤ pos 2) lo hi d up.3 in
    let left : s.hi ≤ℤ a.hi = omega (arith, ints, clamps) in
    subst (AscendFrom least) (sym (append_assoc (overlap a b) [] (common d (from_to lo hi))))
    (put-front least s (common d (from_to lo hi)) (int_le s.lo s.hi) refl (omega (arith, ints, clamps, up.0)) (omega (arith, ints, left, up.2))
    (AscendFrom-lower least (a.hi +ℤ pos 2) (common d (from_to lo hi)) (omega (arith, ints, up.0, up.1)) rest)
    (AscendFrom-lower (s.hi +ℤ pos 2) (a.hi +ℤ pos 2) (common d (from_to lo hi)) (omega (arith, ints, left)) rest))

pub left_is_a_domain : LeftIsADomain
left_is_a_domain (is_value m) d up = clipped (neg_ℤ MAX_VALUE) m m d up
left_is_a_domain (at_most m) d up = clipped (neg_ℤ MAX_VALUE) (neg_ℤ MAX_VALUE) m d up
left_is_a_domain (above m) d up = clipped (neg_ℤ MAX_VALUE) (m +ℤ pos 1) MAX_VALUE d up

-- ---- a variable with fewer values

given-here : (s : State) (n : ℕ) (e : List Span) → n < next s → given (with_domain s n e) (Item.Var n) ≡ e
given-here s n e made = ap domain_or_all (domain_here s n (within e) made)

given-elsewhere : (s : State) (n : ℕ) (v : Variable) (k : ℕ) → k ≢ n → given (with_variable s n v) (Item.Var k) ≡ given s (Item.Var k)
given-elsewhere s n v k other = ap domain_or_all (domain_elsewhere s n v k other)

fewer-given : (s : State) (n : ℕ) (e : List Span) (a : ℕ → ℤ) → n < next s → IsTrue (has_value e (a n)) → (x : Item) → IsTrue (has_value (given s x) (value_of a x)) → IsTrue (has_value (given (with_domain s n e) x) (value_of a x))
fewer-given s n e a made has (Item.Int i) h = h
fewer-given s n e a made has (Item.Var k) h = elim (same_or_not k n) [
  | inl same ↦ subst (λ (m : ℕ). IsTrue (has_value (given (with_domain s n e) (Item.Var m)) (a m))) (sym same) (has_in e (given (with_domain s n e) (Item.Var n)) (a n) (sym (given-here s n e made)) has)
  | inr other ↦ has_in (given s (Item.Var k)) (given (with_domain s n e) (Item.Var k)) (a k) (sym (given-elsewhere s n (within e) k other)) h
]

more-given : (s : State) (n : ℕ) (d e : List Span) (a : ℕ → ℤ) → n < next s → domain_of s n ≡ Some d → ((i : ℤ) → IsTrue (has_value e i) → IsTrue (has_value d i)) →
    (x : Item) → IsTrue (has_value (given (with_domain s n e) x) (value_of a x)) → IsTrue (has_value (given s x) (value_of a x))
more-given s n d e a made has below (Item.Int i) h = h
more-given s n d e a made has below (Item.Var k) h = elim (same_or_not k n) [
  | inl same ↦
      let at : IsTrue (has_value (given (with_domain s n e) (Item.Var n)) (a n)) = subst (λ (m : ℕ). IsTrue (has_value (given (with_domain s n e) (Item.Var m)) (a m))) same h in
      let inside : IsTrue (has_value d (a n)) = below (a n) (has_in (given (with_domain s n e) (Item.Var n)) e (a n) (given-here s n e made) at) in
      subst (λ (m : ℕ). IsTrue (has_value (given s (Item.Var m)) (a m))) (sym same) (has_in d (given s (Item.Var n)) (a n) (sym (ap domain_or_all has)) inside)
  | inr other ↦ has_in (given (with_domain s n e) (Item.Var k)) (given s (Item.Var k)) (a k) (given-elsewhere s n (within e) k other) h
]

counts-before : (s : State) (n : ℕ) (d e : List Span) → domain_of s n ≡ Some d → (x : Item) → Counts (with_domain s n e) x → Counts s x
counts-before s n d e has x (by_domain k f same at) = elim (same_or_not k n) [
  | inl here ↦ by_domain n d (same ∙ ap Item.Var here) has
  | inr other ↦ by_domain k f same (sym (domain_elsewhere s n (within e) k other) ∙ at)
]
counts-before s n d e has x (by_place c y posted at same) =
    by_place c y posted at (same ∙ root-same s (with_domain s n e) (domain_bindings s n e (domain_unbound s n d has)) y)

counts-behind : (s : State) (n : ℕ) (d e : List Span) → n < next s → domain_of s n ≡ Some d → (x : Item) → Counts s x → Counts (with_domain s n e) x
counts-behind s n d e made has x (by_domain k f same at) = elim (same_or_not k n) [
  | inl here ↦ by_domain n e (same ∙ ap Item.Var here) (domain_here s n (within e) made)
  | inr other ↦ by_domain k f same (domain_elsewhere s n (within e) k other ∙ at)
]
counts-behind s n d e made has x (by_place c y posted at same) =
    by_place c y posted at (same ∙ sym (root-same s (with_domain s n e) (domain_bindings s n e (domain_unbound s n d has)) y))

fewer-solved : (s : State) (n : ℕ) (d e : List Span) (a : ℕ → ℤ) → domain_of s n ≡ Some d → Solves s a → IsTrue (has_value e (a n)) → Solves (with_domain s n e) a
fewer-solved s n d e a has h inside = record {
  follows = λ k. ap (value_of a) (root-same s (with_domain s n e) (domain_bindings s n e (domain_unbound s n d has)) (Item.Var k)) ∙ h.follows k;
  values = λ x counts. fewer-given s n e a (domain_made s n d has) inside x (h.values x (counts-before s n d e has x counts));
  bounded = λ x counts. h.bounded x (counts-before s n d e has x counts);
  holds = h.holds;
}

more-solved : (s : State) (n : ℕ) (d e : List Span) (a : ℕ → ℤ) → domain_of s n ≡ Some d → ((i : ℤ) → IsTrue (has_value e i) → IsTrue (has_value d i)) → Solves (with_domain s n e) a →
    Solves s a × IsTrue (has_value e (a n))
more-solved s n d e a has below h =
    let made : n < next s = domain_made s n d has in (
      record {
        follows = λ k. sym (ap (value_of a) (root-same s (with_domain s n e) (domain_bindings s n e (domain_unbound s n d has)) (Item.Var k))) ∙ h.follows k;
        values = λ x counts. more-given s n d e a made has below x (h.values x (counts-behind s n d e made has x counts));
        bounded = λ x counts. h.bounded x (counts-behind s n d e made has x counts);
        holds = h.holds;
      },
      has_in (given (with_domain s n e) (Item.Var n)) e (a n) (given-here s n e made) (h.values (Item.Var n) (by_domain n e refl (domain_here s n (within e) made))),
    )

-- ---- a variable that is bound to one of its values

pub record Binds (s : State) (n : ℕ) (d : List Span) (i : ℤ) : Type 0 where
  pub state : IsState s
  pub may : MaySettle s
  pub has : domain_of s n ≡ Some d
  pub inside : IsTrue (has_value d i)

abbrev pub behind : State → ℕ → ℤ → State
behind s n i = with_binding s n (int i)

pub binds-state : (s : State) (n : ℕ) (d : List Span) (i : ℤ) → Binds s n d i → IsState (behind s n i)
unfolding Occurs
binds-state s n d i b = bound_state s n (int i) (record {
  state = b.state;
  made = domain_made s n d b.has;
  unbound = domain_unbound s n d b.has;
  below = λ m h. absurd h;
  apart = λ h. absurd (subst (Occurs n) (value_int (bindings s) i) h);
})

binds-kept : (s : State) (n : ℕ) (d : List Span) (i : ℤ) → Binds s n d i → Kept (bindings s) (bindings (behind s n i))
binds-kept s n d i b k u e = elim (same_or_not k n) [
  | inl here ↦ absurd (let none : held (bindings s) k ≡ None = ap (held (bindings s)) here ∙ domain_unbound s n d b.has in cc)
  | inr other ↦ held_elsewhere s n (bound (int i)) k other ∙ e
]

binds-items : (s : State) (n : ℕ) (d : List Span) (i : ℤ) → Binds s n d i → Items (bindings s) (bindings (behind s n i))
binds-items s n d i b k none = item_by (bindings (behind s n i)) k (binds-state s n d i b).acyclic (elim (same_or_not k n) [
  | inl here ↦ inr (i, ap (held (bindings (behind s n i))) here ∙ held_here s n (bound (int i)) (domain_made s n d b.has))
  | inr other ↦ inl (held_elsewhere s n (bound (int i)) k other ∙ none)
])

pub root-here : (s : State) (n : ℕ) (d : List Span) (i : ℤ) → Binds s n d i → root_item (behind s n i) (Item.Var n) ≡ Item.Int i
root-here s n d i b = integer-root (behind s n i) n i (binds-state s n d i b).acyclic (ap binding (changed_here s n (bound (int i)) (domain_made s n d b.has)))

pub root-elsewhere : (s : State) (n : ℕ) (d : List Span) (i : ℤ) → Binds s n d i → (k : ℕ) → k ≢ n → held (bindings s) k ≡ None → root_item (behind s n i) (Item.Var k) ≡ Item.Var k
root-elsewhere s n d i b k other none = unbound-root (behind s n i) k (sym (held_is (behind s n i) k) ∙ (held_elsewhere s n (bound (int i)) k other ∙ none))

pub root-again : (s : State) (n : ℕ) (d : List Span) (i : ℤ) → Binds s n d i → (x : Item) → root_item (behind s n i) (root_item s x) ≡ root_item (behind s n i) x
root-again s n d i b x = root_later s (behind s n i) b.state.acyclic (binds-state s n d i b).acyclic (binds-kept s n d i b) (binds-items s n d i b) x

-- what an item of the state comes to has its value
Fits : State → (ℕ → ℤ) → Item → Type 0
Fits r a x = IsTrue (has_value (given r x) (value_of a x)) × IsWithinBounds (value_of a x)

fits-integer : (r : State) (a : ℕ → ℤ) (i : ℤ) → IsWithinBounds i → Fits r a (Item.Int i)
unfolding Fits
fits-integer r a i bounds = (only-has i, bounds)

fits-variable : (s : State) (n : ℕ) (d : List Span) (i : ℤ) (a : ℕ → ℤ) → Binds s n d i → Solves s a → (k : ℕ) (f : List Span) → k ≢ n → domain_of s k ≡ Some f → Fits (behind s n i) a (Item.Var k)
unfolding Fits
fits-variable s n d i a b h k f other at = (
  has_in (given s (Item.Var k)) (given (behind s n i) (Item.Var k)) (a k) (sym (given-elsewhere s n (bound (int i)) k other)) (h.values (Item.Var k) (by_domain k f refl at)),
  h.bounded (Item.Var k) (by_domain k f refl at),
)

pub bounds-here : (s : State) (n : ℕ) (d : List Span) (i : ℤ) → Binds s n d i → IsWithinBounds i
bounds-here s n d i b = values_are_within_bounds d i (domain_good s n d b.state b.has).0 b.inside

fits-root : (s : State) (n : ℕ) (d : List Span) (i : ℤ) (a : ℕ → ℤ) → Binds s n d i → Solves s a → (x : Item) →
    ((k : ℕ) × (f : List Span) × (x ≡ Item.Var k) × (domain_of s k ≡ Some f)) ⊎ ((j : ℤ) × (x ≡ Item.Int j) × IsWithinBounds j) → Fits (behind s n i) a (root_item (behind s n i) x)
fits-root s n d i a b h x (inr (j, e, bounds)) = subst (λ (y : Item). Fits (behind s n i) a (root_item (behind s n i) y)) (sym e) (fits-integer (behind s n i) a j bounds)
fits-root s n d i a b h x (inl (k, f, e, at)) = subst (λ (y : Item). Fits (behind s n i) a (root_item (behind s n i) y)) (sym e) (elim (same_or_not k n) [
  | inl here ↦ subst (Fits (behind s n i) a) (sym (ap (λ (m : ℕ). root_item (behind s n i) (Item.Var m)) here ∙ root-here s n d i b)) (fits-integer (behind s n i) a i (bounds-here s n d i b))
  | inr other ↦ subst (Fits (behind s n i) a) (sym (root-elsewhere s n d i b k other (domain_unbound s k f at))) (fits-variable s n d i a b h k f other at)
])

fits-counted : (s : State) (n : ℕ) (d : List Span) (i : ℤ) (a : ℕ → ℤ) → Binds s n d i → Solves s a → (x : Item) → Counts (behind s n i) x → Fits (behind s n i) a x
fits-counted s n d i a b h x (by_domain k f same at) = subst (Fits (behind s n i) a) (sym same) (elim (same_or_not k n) [
  | inl here ↦ absurd (let none : domain_of (behind s n i) k ≡ None = ap (domain_of (behind s n i)) here ∙ domain_here s n (bound (int i)) (domain_made s n d b.has) in cc)
  | inr other ↦ fits-variable s n d i a b h k f other (sym (domain_elsewhere s n (bound (int i)) k other) ∙ at)
])
fits-counted s n d i a b h x (by_place c y posted at same) =
    subst (Fits (behind s n i) a) (sym same) (subst (Fits (behind s n i) a) (root-again s n d i b y) (fits-root s n d i a b h (root_item s y) (b.may c y posted at)))

bound-solved : (s : State) (n : ℕ) (d : List Span) (i : ℤ) (a : ℕ → ℤ) → Binds s n d i → Solves s a → a n ≡ i → Solves (behind s n i) a
unfolding Fits
bound-solved s n d i a b h one = record {
  follows = root-value_by s (behind s n i) a (record {
    before = b.state.acyclic;
    after = (binds-state s n d i b).acyclic;
    kept = binds-kept s n d i b;
    items = binds-items s n d i b;
    follows = h.follows;
    unbound = λ k none. elim (same_or_not k n) [
      | inl here ↦ ap (λ (m : ℕ). value_of a (root_item (behind s n i) (Item.Var m))) here ∙ (ap (value_of a) (root-here s n d i b) ∙ (sym one ∙ ap a (sym here)))
      | inr other ↦ ap (value_of a) (root-elsewhere s n d i b k other none)
    ];
  });
  values = λ x counts. (fits-counted s n d i a b h x counts).0;
  bounded = λ x counts. (fits-counted s n d i a b h x counts).1;
  holds = h.holds;
}

-- and back
value-here : (s : State) (n : ℕ) (d : List Span) (i : ℤ) (a : ℕ → ℤ) → Binds s n d i → Solves (behind s n i) a → a n ≡ i
value-here s n d i a b h = sym (h.follows n) ∙ ap (value_of a) (root-here s n d i b)

fits-before : (s : State) (n : ℕ) (d : List Span) (i : ℤ) (a : ℕ → ℤ) → Binds s n d i → Solves (behind s n i) a → (k : ℕ) (f : List Span) → domain_of s k ≡ Some f → IsTrue (has_value f (a k))
fits-before s n d i a b h k f at = elim (same_or_not k n) [
  | inl here ↦
      let same : f ≡ d = (let e : domain_of s k ≡ Some d = ap (domain_of s) here ∙ b.has in cc) in
      let one : a k ≡ i = ap a here ∙ value-here s n d i a b h in
      subst (λ (g : List Span). IsTrue (has_value g (a k))) (sym same) (subst (λ (j : ℤ). IsTrue (has_value d j)) (sym one) b.inside)
  | inr other ↦
      let at_behind : domain_of (behind s n i) k ≡ Some f = domain_elsewhere s n (bound (int i)) k other ∙ at in
      has_in (given (behind s n i) (Item.Var k)) f (a k) (ap domain_or_all at_behind) (h.values (Item.Var k) (by_domain k f refl at_behind))
]

unbound-fits : (s : State) (n : ℕ) (d : List Span) (i : ℤ) (a : ℕ → ℤ) → Binds s n d i → Solves (behind s n i) a → (x : Item) → Counts s x → Fits s a x
unfolding Fits
unbound-fits s n d i a b h x counts = elim (counted s x b.may counts) [
  | inl (k, f, e, at) ↦
      let inside : IsTrue (has_value f (a k)) = fits-before s n d i a b h k f at in
      subst (Fits s a) (sym e) (has_in f (given s (Item.Var k)) (a k) (sym (ap domain_or_all at)) inside, values_are_within_bounds f (a k) (domain_good s k f b.state at).0 inside)
  | inr (j, e, bounds) ↦ subst (Fits s a) (sym e) (fits-integer s a j bounds)
]

unbound-solved : (s : State) (n : ℕ) (d : List Span) (i : ℤ) (a : ℕ → ℤ) → Binds s n d i → Solves (behind s n i) a → Solves s a
unfolding Fits
unbound-solved s n d i a b h = record {
  follows = λ k. sym (root-value (behind s n i) a h (root_item s (Item.Var k))) ∙ (ap (value_of a) (root-again s n d i b (Item.Var k)) ∙ h.follows k);
  values = λ x counts. (unbound-fits s n d i a b h x counts).0;
  bounded = λ x counts. (unbound-fits s n d i a b h x counts).1;
  holds = h.holds;
}

-- ---- an alternative

-- the solutions of what is left, by the values that are left
abbrev Narrowed : State → ℕ → Alternative → (ℕ → ℤ) → Option State → Type 0
Narrowed s n alt a o = ((r : State) → o ≡ Some r → Solves r a ↔ (Solves s a × IsTrue (allows alt (a n)))) × (o ≡ None → Solves s a → IsTrue (allows alt (a n)) → ⊥)

pub left-of : (alt : Alternative) (d : List Span) (i : ℤ) → IsDomain d → IsTrue (has_value (left_by alt d) i) → IsTrue (has_value d i) × IsTrue (allows alt i)
left-of alt d i up h = and_parts (has_value d i) (allows alt i) (sym (left_is_allowed alt d i up) ∙ h)

is-left : (alt : Alternative) (d : List Span) (i : ℤ) → IsDomain d → IsTrue (has_value d i) → IsTrue (allows alt i) → IsTrue (has_value (left_by alt d) i)
is-left alt d i up h k = left_is_allowed alt d i up ∙ (let p : has_value d i ≡ true = h in let q : allows alt i ≡ true = k in rw (p, q) refl)

value-in : (s : State) (n : ℕ) (d : List Span) (a : ℕ → ℤ) → domain_of s n ≡ Some d → Solves s a → IsTrue (has_value d (a n))
value-in s n d a has h = has_in (given s (Item.Var n)) d (a n) (ap domain_or_all has) (h.values (Item.Var n) (by_domain n d refl has))

some-is : (r q : State) → Some q ≡ Some r → q ≡ r
some-is r q e = cc

by_values : (s : State) (n : ℕ) (d : List Span) (alt : Alternative) (a : ℕ → ℤ) → IsState s → MaySettle s → domain_of s n ≡ Some d → (vs : List ℤ) → values_of (left_by alt d) ≡ vs →
    Narrowed s n alt a (with_values s n (left_by alt d) vs)
by_values s n d alt a is may has [] e = (
  λ r same. absurd cc,
  λ same h k.
      let inside : has_value (left_by alt d) (a n) ≡ true = is-left alt d (a n) (domain_good s n d is has).0 (value-in s n d a has h) k in
      let none : has_value (left_by alt d) (a n) ≡ false = no_value (left_by alt d) (a n) e in
      absurd cc,
)
by_values s n d alt a is may has (i ∷ []) e =
    let up : IsDomain d = (domain_good s n d is has).0 in
    let there : IsTrue (has_value (left_by alt d) i) = first_value (left_by alt d) i [] (left_is_a_domain alt d up) e in
    let parts = left-of alt d i up there in
    let b : Binds s n d i = record { state = is; may = may; has = has; inside = parts.0 } in (
      λ r same. subst (λ (q : State). Solves q a ↔ (Solves s a × IsTrue (allows alt (a n)))) (some-is r (behind s n i) same) (
        λ h. (unbound-solved s n d i a b h, subst (λ (j : ℤ). IsTrue (allows alt j)) (sym (value-here s n d i a b h)) parts.1),
        λ p. bound-solved s n d i a b p.0 (one_value (left_by alt d) i (a n) (left_is_a_domain alt d up) e (is-left alt d (a n) up (value-in s n d a has p.0) p.1)),
      ),
      λ same h k. absurd cc,
    )
by_values s n d alt a is may has (i ∷ j ∷ rest) e =
    let up : IsDomain d = (domain_good s n d is has).0 in (
      λ r same. subst (λ (q : State). Solves q a ↔ (Solves s a × IsTrue (allows alt (a n)))) (some-is r (with_domain s n (left_by alt d)) same) (
        λ h. let before = more-solved s n d (left_by alt d) a has (λ k l. (left-of alt d k up l).0) h in (before.0, (left-of alt d (a n) up before.1).1),
        λ p. fewer-solved s n d (left_by alt d) a has p.0 (is-left alt d (a n) up (value-in s n d a has p.0) p.1),
      ),
      λ same h k. absurd cc,
    )

pub narrowing_keeps_solutions : NarrowingKeepsSolutions
narrowing_keeps_solutions s n d alt a is may has = by_values s n d alt a is may has (values_of (left_by alt d)) refl
