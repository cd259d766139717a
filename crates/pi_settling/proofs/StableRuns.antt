-- Where no filter changes anything, what is there is what stays.
use Rattle.std.specs.Prelude.{◌≡◌, ◌↔◌, ℕ, ◌<◌, ◌≤◌, ℤ, IsTrue, List, [], ◌∷◌, length, Some, Contains, refl}
use Rattle.std.proofs.Common.{arith, sym, ◌∙◌, ap, subst}
use Rattle.std.proofs.lemmas.Int.{ints}
use Rattle.std.proofs.lemmas.List.{ext_get_or}
use Rattle.pi_constraints.specs.declared.constraint.Constraint.{Constraint}
use Rattle.pi_constraints.specs.declared.constraint.Item.{Item}
use Rattle.pi_constraints.specs.declared.domain.Span.{Span}
use Rattle.pi_constraints.specs.Domain.{IsWithinBounds, AscendFrom, IsDomain, has_value, values_of, size_of}
use Rattle.pi_constraints.proofs.DomainLemmas.{values_are_within_bounds, IsLeastValue-first}
use Rattle.pi_prop_spec.specs.Places.{places_of, domain_at}
use Rattle.pi_prop_spec.specs.Filter.{Leaves}
use Rattle.pi_constraints.specs.State.{State, Variable, free, within, bound, domain_in, domain_of, IsState}
use Rattle.pi_constraints.proofs.StateLemmas.{variable, domain_good}
use Rattle.pi_settling.specs.Roots.{root_item, only, all_values, domain_or_all, given, by_domain}
use Rattle.pi_settling.specs.Stable.{at_places, LieBelow, NoFilterChanges, Stays, Narrows, stays_free, stays_bound, some_stay, one_stays, IsStable}
use Rattle.pi_settling.specs.SettlingLaws.{MaySettle}
use Rattle.pi_settling.proofs.PlaceLemmas.{place_at, place-domain, count-places}
use Rattle.pi_settling.proofs.StableLemmas.{only-has, just-domain, just-is, just-below}
use Rattle.pi_settling.proofs.TwiceLemmas.{left, left-given, ahead, has_in}
use Rattle.pi_settling.specs.Narrowed.{NarrowsTo, left_free, left_bound, some_left, one_left}
use Rattle.pi_settling.specs.Run.{given_at, ChangesNothing}
use Rattle.pi_settling.proofs.NarrowLemmas.{narrow-root, Comes, to_variable, to_integer, item-comes, unbound-domain, left-values}
use Rattle.pi_settling.proofs.RunLemmas.{place-comes, Has, IsBetween, counts-come}

-- ---- what is there lies below

all-domain : IsDomain all_values
unfolding AscendFrom
all-domain = (omega (arith, ints), omega (arith, ints), omega (arith, ints), tt)

all-has : (i : ℤ) → IsWithinBounds i → IsTrue (has_value all_values i)
unfolding has_value
all-has i h = grind (arith, ints, h.0, h.1)

variable-domain : (r : State) (n : ℕ) (v : Variable) → IsState r → variable r n ≡ v → IsDomain (given r (Item.Var n))
variable-domain r n free is at = subst (λ (u : Variable). IsDomain (domain_or_all (domain_in u))) (sym at) all-domain
variable-domain r n (bound t) is at = subst (λ (u : Variable). IsDomain (domain_or_all (domain_in u))) (sym at) all-domain
variable-domain r n (within d) is at = subst (λ (u : Variable). IsDomain (domain_or_all (domain_in u))) (sym at) (domain_good r n d is (ap domain_in at)).0

left-domain : (r : State) → IsState r → (x : Item) → IsDomain (left r x)
unfolding left
left-domain r is (Item.Var n) = variable-domain r n (variable r n) is refl
left-domain r is (Item.Int i) = just-domain (only i) i

-- a variable has what it had at the start
below-variable : (s r : State) (n : ℕ) (v : Variable) (i : ℤ) → IsState s → IsBetween s r → variable s n ≡ v → IsDomain (ahead r (Item.Var n)) → IsTrue (has_value (ahead r (Item.Var n)) i) → IsTrue (has_value (given s (Item.Var n)) i)
unfolding ahead
below-variable s r n free i is b at up h = has_in all_values (given s (Item.Var n)) i (sym (ap (λ (u : Variable). domain_or_all (domain_in u)) at)) (all-has i (values_are_within_bounds (ahead r (Item.Var n)) i up h))
below-variable s r n (bound t) i is b at up h = has_in all_values (given s (Item.Var n)) i (sym (ap (λ (u : Variable). domain_or_all (domain_in u)) at)) (all-has i (values_are_within_bounds (ahead r (Item.Var n)) i up h))
below-variable s r n (within d) i is b at up h =
    let has = ap domain_in at in
    let kept = (left-values (Has r) s r n d is b.narrowed has i).0 (left-given r (root_item r (Item.Var n)) i h) in
    has_in d (given s (Item.Var n)) i (sym (unbound-domain s n d has).1) kept.0

ahead-given : (s r : State) → IsState s → IsBetween s r → (x : Item) (i : ℤ) → IsTrue (has_value (ahead r x) i) → IsTrue (has_value (given s x) i)
unfolding ahead left
ahead-given s r is b (Item.Int j) i h = just-below (only j) j i h
ahead-given s r is b (Item.Var n) i h = below-variable s r n (variable s n) i is b refl (left-domain r b.state (root_item r (Item.Var n))) h

ahead-below : (s r : State) → IsState s → IsBetween s r → LieBelow s (ahead r)
unfolding ahead
ahead-below s r is b = record { domains = λ x. left-domain r b.state (root_item r x); below = ahead-given s r is b }

-- ---- the domains at places

left-is : (r : State) (x : Item) → Comes r x → left r x ≡ given r x
unfolding left
left-is r x (to_variable n d e has) = ap (left r) e ∙ sym (ap (given r) e)
left-is r x (to_integer i e b) = ap (left r) e ∙ (just-is (only i) i (only-has i) b ∙ sym (ap (given r) e))

pub ahead-is : (s r : State) → IsState s → MaySettle s → IsBetween s r → (c : Constraint) → Contains s.constraints c → at_places s (ahead r) c ≡ given_at r c
unfolding ahead
ahead-is s r is may b c posted = ext_get_or [] (at_places s (ahead r) c) (given_at r c) (count-places s (ahead r) c ∙ sym (count-places r (given r) c)) (λ k l.
    let inside : k < length (places_of c) = omega (arith, count-places s (ahead r) c) in
    let later : Contains r.constraints c = subst (λ (cs : List Constraint). Contains cs c) (sym b.narrowed.constraints) posted in
    place-domain s (ahead r) c k inside
    ∙ (ap (left r) (narrow-root (Has r) s r is b.narrowed (place_at c k))
    ∙ (left-is r (root_item r (place_at c k)) (place-comes r b.settles c k later inside) ∙ sym (place-domain r (given r) c k inside))))

-- ---- what is there stays

abbrev pub AllChangeNothing : State → Type 0
AllChangeNothing r = (c : Constraint) → Contains r.constraints c → ChangesNothing r c

ahead-unchanged : (s r : State) → IsState s → MaySettle s → IsBetween s r → AllChangeNothing r → NoFilterChanges s (ahead r)
ahead-unchanged s r is may b none c k i posted l h =
    let same : at_places s (ahead r) c ≡ given_at r c = ahead-is s r is may b c posted in
    let later : Contains r.constraints c = subst (λ (cs : List Constraint). Contains cs c) (sym b.narrowed.constraints) posted in
    subst (λ (ds : List (List Span)). Leaves c ds k i) (sym same) (none c later k i l (subst (λ (ds : List (List Span)). IsTrue (has_value (domain_at ds k) i)) same h))

there-stays : (s r : State) → IsState s → MaySettle s → IsBetween s r → AllChangeNothing r → (x : Item) → Comes s x → (i : ℤ) → IsTrue (has_value (given r (root_item r x)) i) → Stays s x i
unfolding ahead
there-stays s r is may b none x was i h = record {
  domains = ahead r;
  below = ahead-below s r is b;
  unchanged = ahead-unchanged s r is may b none;
  has = has_in (given r (root_item r x)) (ahead r x) i (sym (left-is r (root_item r x) (item-comes (Has r) s r is b.narrowed x was))) h;
}

none-in : 2 ≤ size_of [] → ⊥
unfolding values_of
none-in l = omega arith

pub some-in : (d : List Span) → IsDomain d → 2 ≤ size_of d → (i : ℤ) × IsTrue (has_value d i)
some-in [] up l = absurd (none-in l)
some-in (s ∷ ss) up l = (s.lo, (IsLeastValue-first s ss up).is_value)

some-value : (r : State) (x : Item) → IsState r → Comes r x → (i : ℤ) × IsTrue (has_value (given r x) i)
some-value r x is (to_variable n d e has) =
    let good = domain_good r n d is has in
    let found = some-in d good.0 good.1 in
    (found.0, has_in d (given r x) found.0 (sym (ap (given r) e ∙ (unbound-domain r n d has).1)) found.1)
some-value r x is (to_integer i e b) = (i, has_in (only i) (given r x) i (sym (ap (given r) e)) (only-has i))

-- ---- the stable state

to-stable : (s r : State) (n : ℕ) (v w : Variable) → ((d : List Span) (i : ℤ) → v ≡ within d → (IsTrue (has_value d i) × Has r n i) ↔ Stays s (Item.Var n) i) → NarrowsTo (Has r n) v w → Narrows s n v w
to-stable s r n v w all left_free = stays_free
to-stable s r n v w all (left_bound t) = stays_bound t
to-stable s r n v w all (some_left d e p q each) = some_stay d e p q (λ i. (λ h. (all d i refl).0 ((each i).0 h), λ st. (each i).1 ((all d i refl).1 st)))
to-stable s r n v w all (one_left d i each) = one_stays d i (λ j. (λ h. (all d j refl).0 ((each j).0 h), λ st. (each j).1 ((all d j refl).1 st)))

variable-stays : (s r : State) → IsState s → MaySettle s → IsBetween s r → AllChangeNothing r → (n : ℕ) (d : List Span) (i : ℤ) → variable s n ≡ within d → (IsTrue (has_value d i) × Has r n i) ↔ Stays s (Item.Var n) i
variable-stays s r is may b none n d i at =
    let has : domain_of s n ≡ Some d = ap domain_in at in (
      λ h. there-stays s r is may b none (Item.Var n) (to_variable n d refl has) i h.1,
      λ st. (has_in (given s (Item.Var n)) d i (unbound-domain s n d has).1 (st.below.below (Item.Var n) i st.has), b.stay (Item.Var n) i (by_domain n d refl has) st),
    )

pub stable-when-done : (s r : State) → IsState s → MaySettle s → IsBetween s r → AllChangeNothing r → IsStable s r
stable-when-done s r is may b none = record {
  kept = λ x counts.
      let was : Comes s x = counts-come s x may counts in
      let found = some-value r (root_item r x) b.state (item-comes (Has r) s r is b.narrowed x was) in
      (found.0, there-stays s r is may b none x was found.0 found.1);
  count = b.narrowed.count;
  variables = λ n l. to-stable s r n (variable s n) (variable r n) (λ d i at. variable-stays s r is may b none n d i at) (b.narrowed.variables n l);
  constraints = b.narrowed.constraints;
  agents = b.narrowed.agents;
  waiting = b.narrowed.waiting;
}
