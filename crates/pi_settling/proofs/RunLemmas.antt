-- What runs leave: all that stays in the state in which a propagation began, and, where no filter changes anything, nothing else.
use Rattle.std.specs.Prelude.{◌≡◌, ℕ, ◌<◌, ℤ, pos, IsTrue, List, ◌∷◌, length, slice_get, Some, Contains, refl}
use Rattle.std.proofs.Common.{arith, sym, ◌∙◌, ap, subst}
use Rattle.std.proofs.lemmas.Option.{slice_get_within, get_or_from_slice_get, slice_get-get_or}
use Rattle.pi_terms.specs.Tree.{Tree, int}
use Rattle.pi_constraints.specs.declared.constraint.Constraint.{Constraint}
use Rattle.pi_constraints.specs.declared.constraint.Item.{Item}
use Rattle.pi_constraints.specs.Domain.{IsDomain, has_value}
use Rattle.pi_prop_spec.specs.Places.{places_of}
use Rattle.pi_prop_spec.specs.Filter.{Leaves}
use Rattle.pi_prop_spec.specs.Laws.{AreDomainsOf}
use Rattle.pi_prop_spec.proofs.FilterLemmas.{filters_are_monotone}
use Rattle.pi_constraints.specs.State.{State, Variable, free, within, bound, binding, next, domain_in, domain_of, IsState}
use Rattle.pi_constraints.proofs.StateLemmas.{variable, domain_good}
use Rattle.pi_settling.specs.Roots.{root_item, only, domain_or_all, given, Counts, by_domain, by_place}
use Rattle.pi_settling.specs.Stable.{at_places, Stays, IsEmptied}
use Rattle.pi_settling.specs.SettlingLaws.{MaySettle}
use Rattle.pi_settling.proofs.PlaceLemmas.{place_at, place-domain, place-contained, count-places, places-domains, at_place, from_place}
use Rattle.pi_settling.proofs.StableLemmas.{only-domain, only-has, has-only}
use Rattle.pi_settling.proofs.TwiceLemmas.{has_in, unbound-root, integer-root}
use Rattle.pi_settling.specs.Narrowed.{NarrowsTo, left_free, left_bound, some_left, one_left, IsNarrowed}
use Rattle.pi_settling.specs.Run.{given_at, KeptBy, IsRun, IsLost, integer_lost, variable_lost}
use Rattle.pi_settling.specs.Runs.{Runs, no_run, one_more}
use Rattle.pi_settling.specs.PropagationLaws.{RunsKeepStates, FailuresEmpty}
use Rattle.pi_settling.proofs.NarrowLemmas.{narrow-state, narrow-settles, narrow-root, Comes, to_variable, to_integer, comes, item-comes, unbound-domain, left-values, root-before}

-- ---- states

pub runs_keep_states : RunsKeepStates
runs_keep_states s due k r now is may no_run = (is, may)
runs_keep_states s due k r now is may (one_more j p q i rest fresh c before at run made) =
    let h : IsState p × MaySettle p = runs_keep_states s due j p (i ∷ rest) is may before in
    (narrow-state (KeptBy p c) p q h.0 run.narrowed, narrow-settles (KeptBy p c) p q h.0 h.1 run.narrowed)

-- ---- places and the domains at them

pub place-is : (c : Constraint) (k : ℕ) (y : Item) → slice_get (places_of c) k ≡ Some y → (k < length (places_of c)) × (place_at c k ≡ y)
place-is c k y at = (slice_get_within (places_of c) k y at, get_or_from_slice_get (places_of c) k y (Item.Int (pos 0)) at)

pub place-there : (c : Constraint) (k : ℕ) → k < length (places_of c) → slice_get (places_of c) k ≡ Some (place_at c k)
place-there c k l = slice_get-get_or (places_of c) k (Item.Int (pos 0)) l

pub place-comes : (s : State) → MaySettle s → (c : Constraint) (k : ℕ) → Contains s.constraints c → k < length (places_of c) → Comes s (root_item s (place_at c k))
place-comes s may c k posted l = comes s may c (place_at c k) posted (place-contained c k l)

pub comes-domain : (s : State) (x : Item) → IsState s → Comes s x → IsDomain (given s x)
comes-domain s x is (to_variable n d e has) = subst (λ (y : Item). IsDomain (given s y)) (sym e) (subst IsDomain (sym (unbound-domain s n d has).1) (domain_good s n d is has).0)
comes-domain s x is (to_integer i e b) = subst (λ (y : Item). IsDomain (given s y)) (sym e) (only-domain i b)

pub given-domains : (s : State) (c : Constraint) → IsState s → MaySettle s → Contains s.constraints c → AreDomainsOf c (given_at s c)
given-domains s c is may posted = record {
  count = count-places s (given s) c;
  domains = λ k l.
      let inside : k < length (places_of c) = omega (arith, count-places s (given s) c) in
      subst IsDomain (sym (place-domain s (given s) c k inside)) (comes-domain s (root_item s (place_at c k)) is (place-comes s may c k posted inside));
}

-- ---- what stays is left

-- the values of what a variable comes to
abbrev pub Has : State → ℕ → ℤ → Type 0
Has r n i = IsTrue (has_value (given r (root_item r (Item.Var n))) i)

-- a state between one in which a propagation began and its end: no value was lost that stays
pub record IsBetween (s r : State) : Type 0 where
  pub state : IsState r
  pub settles : MaySettle r
  pub narrowed : IsNarrowed (Has r) s r
  pub stay : (x : Item) (i : ℤ) → Counts s x → Stays s x i → IsTrue (has_value (given r (root_item r x)) i)

-- a filter leaves what stays
pub stays-left : (s r : State) → IsState s → MaySettle s → IsBetween s r → (c : Constraint) → Contains s.constraints c → (k : ℕ) → k < length (places_of c) → (i : ℤ) →
    Stays s (root_item s (place_at c k)) i → Leaves c (given_at r c) k i
stays-left s r is may b c posted k l i st =
    let later : Contains r.constraints c = subst (λ (cs : List Constraint). Contains cs c) (sym b.narrowed.constraints) posted in
    filters_are_monotone c (given_at r c) (at_places s st.domains c) (given-domains r c b.state b.settles later) (places-domains s st.domains c st.below.domains)
    (λ j n m h.
    let inside : j < length (places_of c) = omega (arith, count-places r (given r) c) in
    let there : IsTrue (has_value (st.domains (root_item s (place_at c j))) n) = at_place s st.domains c j n inside h in
    let y : Item = root_item s (place_at c j) in
    let counts : Counts s y = by_place c (place_at c j) posted (place-contained c j inside) refl in
    let here : IsTrue (has_value (given r (root_item r y)) n) = b.stay y n counts (record { domains = st.domains; below = st.below; unchanged = st.unchanged; has = there }) in
    from_place r (given r) c j n inside (subst (λ (x : Item). IsTrue (has_value (given r x) n)) (narrow-root (Has r) s r is b.narrowed (place_at c j)) here))
    k i l (st.unchanged c k i posted l (from_place s st.domains c k i l st.has))

-- a variable keeps what stays of it
pub stays-kept : (s r : State) → IsState s → MaySettle s → IsBetween s r → (c : Constraint) → Contains s.constraints c → (n : ℕ) (i : ℤ) → Stays s (Item.Var n) i → KeptBy r c n i
stays-kept s r is may b c posted n i st k l (y, at, e) =
    let place = place-is c k y at in
    let x : Item = root_item s (place_at c k) in
    let last : root_item r x ≡ Item.Var n = narrow-root (Has r) s r is b.narrowed (place_at c k) ∙ (ap (root_item r) place.1 ∙ e) in
    let same : x ≡ Item.Var n = root-before (Has r) s r is b.narrowed x n (place-comes s may c k posted l) last in
    stays-left s r is may b c posted k l i (subst (λ (z : Item). Stays s z i) (sym same) st)

-- ---- runs go on between

-- the first state is narrowed to what is there
pub narrow-itself : (s : State) → IsState s → (v : Variable) (n : ℕ) → variable s n ≡ v → NarrowsTo (Has s n) v v
narrow-itself s is free n at = left_free
narrow-itself s is (bound t) n at = left_bound t
narrow-itself s is (within d) n at =
    let has : domain_of s n ≡ Some d = ap domain_in at in
    let good = domain_good s n d is has in
    let u = unbound-domain s n d has in
    let same : given s (root_item s (Item.Var n)) ≡ d = ap (given s) u.0 ∙ u.1 in
    some_left d d good.0 good.1 (λ i. (λ h. (h, has_in d (given s (root_item s (Item.Var n))) i (sym same) h), λ h. h.0))

stays-given : (s : State) (x : Item) (i : ℤ) → Comes s x → Stays s x i → IsTrue (has_value (given s (root_item s x)) i)
stays-given s x i (to_variable n d e has) st =
    let u = unbound-domain s n d has in
    subst (λ (y : Item). IsTrue (has_value (given s y) i)) (e ∙ (sym u.0 ∙ ap (root_item s) (sym e))) (st.below.below x i st.has)
stays-given s x i (to_integer j e b) st =
    subst (λ (y : Item). IsTrue (has_value (given s y) i)) (e ∙ ap (root_item s) (sym e)) (st.below.below x i st.has)

pub counts-come : (s : State) (x : Item) → MaySettle s → Counts s x → Comes s x
counts-come s x may (by_domain n d e has) = to_variable n d e has
counts-come s x may (by_place c y posted at e) = subst (Comes s) (sym e) (comes s may c y posted at)

pub between-start : (s : State) → IsState s → MaySettle s → IsBetween s s
between-start s is may = record {
  state = is;
  settles = may;
  narrowed = record { count = refl; variables = λ n l. narrow-itself s is (variable s n) n refl; constraints = refl; agents = refl; waiting = refl };
  stay = λ x i counts st. stays-given s x i (counts-come s x may counts) st;
}

to-compose : (K : ℤ → Type 0) (r q : State) (n : ℕ) (v w w' x : Variable) → IsState q → NarrowsTo (Has r n) v w → w ≡ w' → NarrowsTo K w' x → variable q n ≡ x → NarrowsTo (Has q n) v x
to-compose K r q n v w w' x is left_free e left_free at = left_free
to-compose K r q n v w w' x is left_free e (left_bound t) at = absurd (cc)
to-compose K r q n v w w' x is left_free e (some_left d f p m all) at = absurd (cc)
to-compose K r q n v w w' x is left_free e (one_left d j all) at = absurd (cc)
to-compose K r q n v w w' x is (left_bound t) e left_free at = absurd (cc)
to-compose K r q n v w w' x is (left_bound t) e (left_bound u) at = subst (λ (z : Variable). NarrowsTo (Has q n) (bound t) z) e (left_bound t)
to-compose K r q n v w w' x is (left_bound t) e (some_left d f p m all) at = absurd (cc)
to-compose K r q n v w w' x is (left_bound t) e (one_left d j all) at = absurd (cc)
to-compose K r q n v w w' x is (some_left d f p m all) e left_free at = absurd (cc)
to-compose K r q n v w w' x is (some_left d f p m all) e (left_bound t) at = absurd (cc)
to-compose K r q n v w w' x is (some_left d f p m all) e (some_left f' g p' m' all') at =
    let same : f' ≡ f = cc in
    let there : given q (root_item q (Item.Var n)) ≡ g = ap (given q) (unbound-root q n (ap binding at)) ∙ ap (λ (u : Variable). domain_or_all (domain_in u)) at in
    some_left d g p' m' (λ i. (
      λ h. (((all i).0 (has_in f' f i same ((all' i).0 h).0)).0, has_in g (given q (root_item q (Item.Var n))) i (sym there) h),
      λ h. has_in (given q (root_item q (Item.Var n))) g i there h.1,
    ))
to-compose K r q n v w w' x is (some_left d f p m all) e (one_left f' j all') at =
    let same : f' ≡ f = cc in
    let there : given q (root_item q (Item.Var n)) ≡ only j = ap (given q) (integer-root q n j is.acyclic (ap binding at)) in
    one_left d j (λ i. (
      λ h. (((all i).0 (has_in f' f i same ((all' i).0 h).0)).0, has_in (only j) (given q (root_item q (Item.Var n))) i (sym there) (subst (λ (z : ℤ). IsTrue (has_value (only j) z)) (sym h) (only-has j))),
      λ h. has-only j i (has_in (given q (root_item q (Item.Var n))) (only j) i there h.1),
    ))
to-compose K r q n v w w' x is (one_left d j all) e left_free at = absurd (cc)
to-compose K r q n v w w' x is (one_left d j all) e (left_bound t) at =
    let same : int j ≡ t = cc in
    let here : variable q n ≡ bound (int j) = at ∙ ap bound (sym same) in
    let there : given q (root_item q (Item.Var n)) ≡ only j = ap (given q) (integer-root q n j is.acyclic (ap binding here)) in
    subst (λ (u : Tree). NarrowsTo (Has q n) (within d) (bound u)) same
    (one_left d j (λ i. (
      λ h. (((all i).0 h).0, has_in (only j) (given q (root_item q (Item.Var n))) i (sym there) (subst (λ (z : ℤ). IsTrue (has_value (only j) z)) (sym h) (only-has j))),
      λ h. has-only j i (has_in (given q (root_item q (Item.Var n))) (only j) i there h.1),
    )))
to-compose K r q n v w w' x is (one_left d j all) e (some_left f' g p' m' all') at = absurd (cc)
to-compose K r q n v w w' x is (one_left d j all) e (one_left f' j' all') at = absurd (cc)

pub narrow-compose : (K : ℕ → ℤ → Type 0) (s r q : State) → IsState r → IsNarrowed (Has r) s r → IsNarrowed K r q → IsNarrowed (Has q) s q
narrow-compose K s r q is f g =
    let later : IsState q = narrow-state K r q is g in
    record {
      count = g.count ∙ f.count;
      variables = λ n l.
          let inside : n < next r = subst (λ (k : ℕ). n < k) (sym f.count) l in
          to-compose (K n) r q n (variable s n) (variable r n) (variable r n) (variable q n) later (f.variables n l) refl (g.variables n inside) refl;
      constraints = g.constraints ∙ f.constraints;
      agents = g.agents ∙ f.agents;
      waiting = g.waiting ∙ f.waiting;
    }

stays-behind : (s r q : State) (c : Constraint) → IsState s → MaySettle s → IsBetween s r → Contains s.constraints c → IsNarrowed (KeptBy r c) r q → (x y : Item) (i : ℤ) → Stays s x i → Comes s x → Comes r y →
    root_item r x ≡ y → IsTrue (has_value (given r y) i) → IsTrue (has_value (given q (root_item q y)) i)
stays-behind s r q c is may b posted f x y i st was (to_variable m d e has) to h =
    let x-is : x ≡ Item.Var m = root-before (Has r) s r is b.narrowed x m was (to ∙ e) in
    let kept : KeptBy r c m i = stays-kept s r is may b c posted m i (subst (λ (z : Item). Stays s z i) x-is st) in
    let here : IsTrue (has_value d i) = has_in (given r y) d i (ap (given r) e ∙ (unbound-domain r m d has).1) h in
    subst (λ (z : Item). IsTrue (has_value (given q (root_item q z)) i)) (sym e) ((left-values (KeptBy r c) r q m d b.state f has i).1 (here, kept))
stays-behind s r q c is may b posted f x y i st was (to_integer j e b') to h =
    subst (λ (z : Item). IsTrue (has_value (given q (root_item q z)) i)) (sym e) (has_in (given r y) (only j) i (ap (given r) e) h)

pub between-run : (s r q : State) (c : Constraint) → IsState s → MaySettle s → IsBetween s r → Contains s.constraints c → IsRun r c q → IsBetween s q
between-run s r q c is may b posted run =
    let f : IsNarrowed (KeptBy r c) r q = run.narrowed in
    record {
      state = narrow-state (KeptBy r c) r q b.state f;
      settles = narrow-settles (KeptBy r c) r q b.state b.settles f;
      narrowed = narrow-compose (KeptBy r c) s r q b.state b.narrowed f;
      stay = λ x i counts st.
          let was : Comes s x = counts-come s x may counts in
          subst (λ (z : Item). IsTrue (has_value (given q z) i)) (narrow-root (KeptBy r c) r q b.state f x)
          (stays-behind s r q c is may b posted f x (root_item r x) i st was (item-comes (Has r) s r is b.narrowed x was) refl (b.stay x i counts st));
    }

pub contained : (cs : List Constraint) (i : ℕ) (c : Constraint) → slice_get cs i ≡ Some c → Contains cs c
contained cs i c at = (i, slice_get_within cs i c at, get_or_from_slice_get cs i c c at)

pub runs-between : (s : State) (due : List ℕ) (k : ℕ) (r : State) (now : List ℕ) → IsState s → MaySettle s → Runs s due k r now → IsBetween s r
runs-between s due k r now is may no_run = between-start s is may
runs-between s due k r now is may (one_more j p q i rest fresh c before at run made) =
    let b : IsBetween s p = runs-between s due j p (i ∷ rest) is may before in
    between-run s p q c is may b (subst (λ (cs : List Constraint). Contains cs c) b.narrowed.constraints (contained p.constraints i c at)) run

-- ---- a run that fails

pub lost-empties : (s r : State) (c : Constraint) (x : Item) → IsState s → MaySettle s → IsBetween s r → Contains s.constraints c → IsLost r c x → IsEmptied s
lost-empties s r c x is may b posted (integer_lost k i (y, at, e) none) =
    let place = place-is c k y at in
    let z : Item = root_item s (place_at c k) in
    let counts : Counts s z = by_place c (place_at c k) posted (place-contained c k place.0) refl in
    let last : root_item r z ≡ Item.Int i = narrow-root (Has r) s r is b.narrowed (place_at c k) ∙ (ap (root_item r) place.1 ∙ e) in
    record {
      item = z;
      counts = counts;
      none = λ j st.
          let here : IsTrue (has_value (only i) j) = has_in (given r (root_item r z)) (only i) j (ap (given r) last) (b.stay z j counts st) in
          none (subst (λ (m : ℤ). Leaves c (given_at r c) k m) (has-only i j here) (stays-left s r is may b c posted k place.0 j st));
    }
lost-empties s r c x is may b posted (variable_lost k n (y, at, e) none) =
    let place = place-is c k y at in
    let z : Item = root_item s (place_at c k) in
    let counts : Counts s z = by_place c (place_at c k) posted (place-contained c k place.0) refl in
    let last : root_item r z ≡ Item.Var n = narrow-root (Has r) s r is b.narrowed (place_at c k) ∙ (ap (root_item r) place.1 ∙ e) in
    let same : z ≡ Item.Var n = root-before (Has r) s r is b.narrowed z n (place-comes s may c k posted place.0) last in
    record {
      item = z;
      counts = counts;
      none = λ i st. none i (has_in (given r (root_item r z)) (given r (Item.Var n)) i (ap (given r) last) (b.stay z i counts st))
          (stays-kept s r is may b c posted n i (subst (λ (w : Item). Stays s w i) same st));
    }

pub failures_empty : FailuresEmpty
failures_empty s due k r i rest c may runs at (x, lost) =
    let b : IsBetween s r = runs-between s due k r (i ∷ rest) may.state may.settles runs in
    lost-empties s r c x may.state may.settles b (subst (λ (cs : List Constraint). Contains cs c) b.narrowed.constraints (contained r.constraints i c at)) lost
