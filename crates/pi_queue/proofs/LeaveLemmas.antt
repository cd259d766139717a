-- One item after the other takes what is left: what each step adds, and what stands at the end.
use Rattle.std.specs.Prelude.{◌≡◌, ◌↔◌, ℕ, ◌+◌, ◌<◌, ◌≤◌, ℤ, IsTrue, List, [], ◌∷◌, ◌++◌, length, Some, Contains, refl}
use Rattle.std.proofs.Common.{arith, sym, ◌∙◌, ap, subst, inl, inr}
use Rattle.std.proofs.lemmas.Option.{slice_get_within}
use Rattle.std.proofs.lemmas.List.Elements.{Contains-append_left, Contains-push, Contains-push_cases}
use Rattle.pi_terms.specs.Tree.{int}
use Rattle.pi_constraints.specs.declared.constraint.Constraint.{Constraint}
use Rattle.pi_constraints.specs.declared.constraint.Item.{Item}
use Rattle.pi_constraints.specs.declared.domain.Span.{Span}
use Rattle.pi_constraints.specs.Domain.{IsDomain, has_value, size_of}
use Rattle.pi_prop_spec.specs.Places.{places_of, domain_at}
use Rattle.pi_prop_spec.specs.Filter.{Leaves}
use Rattle.pi_constraints.specs.State.{State, Variable, free, within, bound, binding, next, domain_in, domain_of, with_variable, IsState}
use Rattle.pi_constraints.proofs.StateLemmas.{variable, domain_good, same_or_not, changed_next, changed_here, changed_elsewhere}
use Rattle.pi_settling.specs.Roots.{root_item, only, domain_or_all, given}
use Rattle.pi_settling.specs.SettlingLaws.{MaySettle}
use Rattle.pi_settling.proofs.PlaceLemmas.{place_at, place-domain}
use Rattle.pi_settling.proofs.StableLemmas.{only-has}
use Rattle.pi_settling.proofs.TwiceLemmas.{unbound-root, integer-root, has_in, within_of}
use Rattle.pi_settling.proofs.UniqueLemmas.{domain_made}
use Rattle.pi_settling.specs.Narrowed.{NarrowsTo, left_free, left_bound, some_left, one_left, IsNarrowed}
use Rattle.pi_settling.specs.Run.{given_at, ComesTo, LosesValue, KeptBefore, IsRun, integer_lost, variable_lost, Fails}
use Rattle.pi_settling.proofs.NarrowLemmas.{narrow-state, Comes, to_variable, to_integer, item-comes, unbound-domain, left-values, root-before}
use Rattle.pi_settling.proofs.RunLemmas.{place-is, place-there, place-comes, between-start, narrow-compose}
use Rattle.pi_settling.proofs.WakeLemmas.{narrow-within}
use Rattle.pi_settling.proofs.SizeLemmas.{none-there}
use Rattle.pi_queue.specs.Leaving.{IsWithin, IsLater, MayTake, IsTaken, all_stay, some_stay, one_stays, HasLeft, IsNarrower}

-- ---- one variable

-- it has a value
abbrev InVariable : Variable → ℤ → Type 0
InVariable free i = ⊥
InVariable (within e) i = IsTrue (has_value e i)
InVariable (bound t) i = t ≡ int i

-- where its values pass what more is asked it is as it was
narrows-still : (K L : ℤ → Type 0) (v w : Variable) → ((i : ℤ) → L i → K i) → ((i : ℤ) → InVariable w i → K i → L i) → NarrowsTo K v w → NarrowsTo L v w
narrows-still K L v w less more left_free = left_free
narrows-still K L v w less more (left_bound t) = left_bound t
narrows-still K L v w less more (some_left d e p q all) = some_left d e p q (λ i. (λ h. let was = (all i).0 h in (was.0, more i h was.1), λ h. (all i).1 (h.0, less i h.1)))
narrows-still K L v w less more (one_left d j all) = one_left d j (λ i. (λ h. let was = (all i).0 h in (was.0, more i (ap int (sym h)) was.1), λ h. (all i).1 (h.0, less i h.1)))

narrows-some : (K L M : ℤ → Type 0) (v w : Variable) (d e : List Span) → w ≡ within d → IsDomain e → 2 ≤ size_of e → ((i : ℤ) → IsTrue (has_value e i) ↔ (IsTrue (has_value d i) × M i)) → ((i : ℤ) → L i → K i × M i) → ((i : ℤ) → K i → M i → L i) →
    NarrowsTo K v w → NarrowsTo L v (within e)
narrows-some K L M v w d e is up two both apart join left_free = absurd (cc)
narrows-some K L M v w d e is up two both apart join (left_bound t) = absurd (cc)
narrows-some K L M v w d e is up two both apart join (some_left d0 e0 p q all) =
    let same : e0 ≡ d = cc in
    some_left d0 e up two (λ i. (
      λ h. let now = (both i).0 h in let was = (all i).0 (has_in d e0 i (sym same) now.0) in (was.0, join i was.1 now.1),
      λ h. let parts = apart i h.1 in (both i).1 (has_in e0 d i same ((all i).1 (h.0, parts.0)), parts.1),
    ))
narrows-some K L M v w d e is up two both apart join (one_left d0 j all) = absurd (cc)

narrows-one : (K L M : ℤ → Type 0) (v w : Variable) (d : List Span) (j : ℤ) → w ≡ within d → ((i : ℤ) → (i ≡ j) ↔ (IsTrue (has_value d i) × M i)) → ((i : ℤ) → L i → K i × M i) → ((i : ℤ) → K i → M i → L i) →
    NarrowsTo K v w → NarrowsTo L v (bound (int j))
narrows-one K L M v w d j is both apart join left_free = absurd (cc)
narrows-one K L M v w d j is both apart join (left_bound t) = absurd (cc)
narrows-one K L M v w d j is both apart join (some_left d0 e0 p q all) =
    let same : e0 ≡ d = cc in
    one_left d0 j (λ i. (
      λ h. let now = (both i).0 h in let was = (all i).0 (has_in d e0 i (sym same) now.0) in (was.0, join i was.1 now.1),
      λ h. let parts = apart i h.1 in (both i).1 (has_in e0 d i same ((all i).1 (h.0, parts.0)), parts.1),
    ))
narrows-one K L M v w d j is both apart join (one_left d0 i0 all) = absurd (cc)

in-given : (q : State) (m : ℕ) (i : ℤ) (w : Variable) → IsState q → variable q m ≡ w → InVariable w i → IsTrue (has_value (given q (root_item q (Item.Var m))) i)
in-given q m i free is at h = absurd h
in-given q m i (within e) is at h =
    let there : given q (root_item q (Item.Var m)) ≡ e = ap (given q) (unbound-root q m (ap binding at)) ∙ ap (λ (u : Variable). domain_or_all (domain_in u)) at in
    has_in e (given q (root_item q (Item.Var m))) i (sym there) h
in-given q m i (bound t) is at h =
    let here : binding (variable q m) ≡ Some (int i) = ap binding at ∙ ap Some h in
    let there : given q (root_item q (Item.Var m)) ≡ only i = ap (given q) (integer-root q m i is.acyclic here) in
    has_in (only i) (given q (root_item q (Item.Var m))) i (sym there) (only-has i)

-- ---- what is kept as far as one place more

-- the place at which an item is to take what is left
pub record StandsAt (s : State) (c : Constraint) (k : ℕ) (q : State) (lost : List ℕ) : Type 0 where
  pub state : IsState s
  pub settles : MaySettle s
  pub posted : Contains s.constraints c
  pub inside : k < length (places_of c)
  pub so_far : HasLeft s c k q lost

-- what stands there, followed in the state in which the run began
abbrev pub item_at : State → Constraint → ℕ → Item
item_at s c k = root_item s (place_at c k)

pub came : (s : State) (c : Constraint) (k : ℕ) (q : State) (lost : List ℕ) → StandsAt s c k q lost → Comes s (item_at s c k)
came s c k q lost a = place-comes s a.settles c k a.posted a.inside

comes-here : (s : State) (c : Constraint) (k : ℕ) (x : Item) → ComesTo s c k x → item_at s c k ≡ x
comes-here s c k x (y, at, e) = ap (root_item s) (place-is c k y at).1 ∙ e

here-comes : (s : State) (c : Constraint) (k : ℕ) (x : Item) → k < length (places_of c) → item_at s c k ≡ x → ComesTo s c k x
here-comes s c k x l e = (place_at c k, place-there c k l, e)

kept-less : (s : State) (c : Constraint) (k n : ℕ) (i : ℤ) → KeptBefore s c (k + 1) n i → KeptBefore s c k n i
kept-less s c k n i all j l comes = all j (omega arith) comes

at-last : (s : State) (c : Constraint) (k j n : ℕ) (i : ℤ) → j ≡ k → (ComesTo s c k (Item.Var n) → Leaves c (given_at s c) k i) → ComesTo s c j (Item.Var n) → Leaves c (given_at s c) j i
at-last s c k j n i same last = subst (λ (m : ℕ). ComesTo s c m (Item.Var n) → Leaves c (given_at s c) m i) (sym same) last

kept-more : (s : State) (c : Constraint) (k n : ℕ) (i : ℤ) → KeptBefore s c k n i → (ComesTo s c k (Item.Var n) → Leaves c (given_at s c) k i) → KeptBefore s c (k + 1) n i
kept-more s c k n i all last j l comes = elim (same_or_not j k) [
  | inl same ↦ at-last s c k j n i same last comes
  | inr other ↦ all j (omega arith) comes
]

-- what is left at the place
abbrev pub IsLeftAt : State → Constraint → ℕ → List Span → Type 0
IsLeftAt s c k left = (i : ℤ) → IsTrue (has_value left i) ↔ Leaves c (given_at s c) k i

integers-more : (s : State) (c : Constraint) (k : ℕ) → ((j : ℕ) (i : ℤ) → j < k → ComesTo s c j (Item.Int i) → Leaves c (given_at s c) j i) → ((i : ℤ) → ComesTo s c k (Item.Int i) → Leaves c (given_at s c) k i) →
    (j : ℕ) (i : ℤ) → j < k + 1 → ComesTo s c j (Item.Int i) → Leaves c (given_at s c) j i
integers-more s c k before last j i l comes = elim (same_or_not j k) [
  | inl same ↦ subst (λ (m : ℕ). ComesTo s c m (Item.Int i) → Leaves c (given_at s c) m i) (sym same) (last i) comes
  | inr other ↦ before j i (omega arith) comes
]

-- ---- an item whose values are all left

pub stays-step : (s : State) (c : Constraint) (k : ℕ) (q : State) (lost : List ℕ) (left : List Span) → StandsAt s c k q lost → IsLeftAt s c k left → IsWithin (given q (root_item q (item_at s c k))) left → HasLeft s c (k + 1) q lost
stays-step s c k q lost left a at within-left =
    let f : IsNarrowed (KeptBefore s c k) s q = a.so_far.narrowed in
    let is : IsState q = narrow-state (KeptBefore s c k) s q a.state f in
    record {
      narrowed = record {
        count = f.count;
        variables = λ m l. narrows-still (KeptBefore s c k m) (KeptBefore s c (k + 1) m) (variable s m) (variable q m) (kept-less s c k m)
            (λ i h was. kept-more s c k m i was (λ comes.
            let same : item_at s c k ≡ Item.Var m = comes-here s c k (Item.Var m) comes in
            (at i).0 (within-left i (subst (λ (x : Item). IsTrue (has_value (given q (root_item q x)) i)) (sym same) (in-given q m i (variable q m) is refl h)))))
            (f.variables m l);
        constraints = f.constraints;
        agents = f.agents;
        waiting = f.waiting;
      };
      integers = integers-more s c k a.so_far.integers (λ i comes.
          let same : item_at s c k ≡ Item.Int i = comes-here s c k (Item.Int i) comes in
          (at i).0 (within-left i (subst (λ (x : Item). IsTrue (has_value (given q (root_item q x)) i)) (sym same) (only-has i))));
      losing = a.so_far.losing;
      others = a.so_far.others;
    }

-- ---- a variable that loses a value

-- what a variable was in which an item at this place ends
was-variable : (s : State) (n : ℕ) (x : Item) → Comes s x → x ≡ Item.Var n → (d : List Span) × (domain_of s n ≡ Some d)
was-variable s n x (to_variable m d e has) is = (d, let same : m ≡ n = cc in subst (λ (j : ℕ). domain_of s j ≡ Some d) same has)
was-variable s n x (to_integer i e b) is = absurd (cc)

-- the variable is another one, which lost a value, and all else is as it was
record Loses (s : State) (c : Constraint) (k n : ℕ) (d left : List Span) (q : State) (w : Variable) : Type 0 where
  made : n < next q
  had : domain_of q n ≡ Some d
  item : item_at s c k ≡ Item.Var n
  narrows : NarrowsTo (KeptBefore s c (k + 1) n) (variable s n) w
  lost : (v : ℤ) × IsTrue (has_value d v) × (IsTrue (has_value left v) → ⊥)

loses-narrowed : (s : State) (c : Constraint) (k n : ℕ) (d left : List Span) (q : State) (lost : List ℕ) (w : Variable) → StandsAt s c k q lost → Loses s c k n d left q w → IsNarrowed (KeptBefore s c (k + 1)) s (with_variable q n w)
loses-narrowed s c k n d left q lost w a h =
    let f : IsNarrowed (KeptBefore s c k) s q = a.so_far.narrowed in
    record {
      count = changed_next q n w ∙ f.count;
      variables = λ m l. elim (same_or_not m n) [
        | inl same ↦ subst (λ (j : ℕ). NarrowsTo (KeptBefore s c (k + 1) j) (variable s j) (variable (with_variable q n w) j)) (sym same)
            (subst (NarrowsTo (KeptBefore s c (k + 1) n) (variable s n)) (sym (changed_here q n w h.made)) h.narrows)
        | inr other ↦ subst (NarrowsTo (KeptBefore s c (k + 1) m) (variable s m)) (sym (changed_elsewhere q n w m other))
            (narrows-still (KeptBefore s c k m) (KeptBefore s c (k + 1) m) (variable s m) (variable q m) (kept-less s c k m)
            (λ i in-it was. kept-more s c k m i was (λ comes. absurd (let same : Item.Var n ≡ Item.Var m = sym h.item ∙ comes-here s c k (Item.Var m) comes in other (let one : n ≡ m = cc in sym one))))
            (f.variables m l))
      ];
      constraints = f.constraints;
      agents = f.agents;
      waiting = f.waiting;
    }

still-loses : (s : State) (c : Constraint) (k m : ℕ) (q r : State) → IsState s → IsNarrowed (KeptBefore s c k) s q → IsNarrowed (KeptBefore s c (k + 1)) s r → (d : List Span) → domain_of s m ≡ Some d → LosesValue s q m → LosesValue s r m
still-loses s c k m q r is f g d has (v, here, gone) =
    (v, here, λ h. let now = (left-values (KeptBefore s c (k + 1)) s r m d is g has v).0 h in gone ((left-values (KeptBefore s c k) s q m d is f has v).1 (now.0, kept-less s c k m v now.1)))

loses-here : (s : State) (c : Constraint) (k n : ℕ) (d left : List Span) (q r : State) (lost : List ℕ) (w : Variable) → StandsAt s c k q lost → IsLeftAt s c k left → Loses s c k n d left q w → IsNarrowed (KeptBefore s c (k + 1)) s r →
    (d0 : List Span) → domain_of s n ≡ Some d0 → LosesValue s r n
loses-here s c k n d left q r lost w a at h g d0 has =
    let f : IsNarrowed (KeptBefore s c k) s q = a.so_far.narrowed in
    let u = unbound-domain q n d h.had in
    let there : given q (root_item q (Item.Var n)) ≡ d = ap (given q) u.0 ∙ u.1 in
    let v : ℤ = h.lost.0 in
    let before = (left-values (KeptBefore s c k) s q n d0 a.state f has v).0 (has_in d (given q (root_item q (Item.Var n))) v (sym there) h.lost.1) in
    let u0 = unbound-domain s n d0 has in
    let start : given s (root_item s (Item.Var n)) ≡ d0 = ap (given s) u0.0 ∙ u0.1 in (
      v,
      has_in d0 (given s (root_item s (Item.Var n))) v (sym start) before.0,
      λ now.
          let kept = (left-values (KeptBefore s c (k + 1)) s r n d0 a.state g has v).0 now in
          h.lost.2 ((at v).1 (kept.1 k (omega arith) (here-comes s c k (Item.Var n) a.inside h.item))),
    )

loses-step : (s : State) (c : Constraint) (k n : ℕ) (d left : List Span) (q : State) (lost : List ℕ) (w : Variable) → StandsAt s c k q lost → IsLeftAt s c k left → Loses s c k n d left q w → HasLeft s c (k + 1) (with_variable q n w) (lost ++ n ∷ [])
loses-step s c k n d left q lost w a at h =
    let f : IsNarrowed (KeptBefore s c k) s q = a.so_far.narrowed in
    let r : State = with_variable q n w in
    let g : IsNarrowed (KeptBefore s c (k + 1)) s r = loses-narrowed s c k n d left q lost w a h in
    let was = was-variable s n (item_at s c k) (came s c k q lost a) h.item in
    record {
      narrowed = g;
      integers = integers-more s c k a.so_far.integers (λ i comes. absurd (let same : Item.Var n ≡ Item.Int i = sym h.item ∙ comes-here s c k (Item.Int i) comes in cc));
      losing = λ m h'. elim (Contains-push_cases lost n m h') [
        | inl before ↦ let old = a.so_far.losing m before in (old.0, still-loses s c k m q r a.state f g old.0.0 old.0.1 old.1)
        | inr same ↦ subst (λ (j : ℕ). ((d0 : List Span) × (domain_of s j ≡ Some d0)) × LosesValue s r j) same (was, loses-here s c k n d left q r lost w a at h g was.0 was.1)
      ];
      others = λ m. elim (same_or_not m n) [
        | inl same ↦ inl (subst (Contains (lost ++ n ∷ [])) (sym same) (Contains-push lost n))
        | inr other ↦ elim (a.so_far.others m) [ inl in-lost ↦ inl (Contains-append_left lost (n ∷ []) m in-lost) | inr same ↦ inr (changed_elsewhere q n w m other ∙ same) ]
      ];
    }

-- ---- one item more

step-at : (s : State) (c : Constraint) (k : ℕ) (q r : State) (lost more : List ℕ) (left : List Span) (x : Item) → StandsAt s c k q lost → IsLeftAt s c k left → root_item q (item_at s c k) ≡ x → IsTaken left q lost x r more → HasLeft s c (k + 1) r more
step-at s c k q r lost more left x a at e (all_stay _ within-left) = stays-step s c k q lost left a at (subst (λ (y : Item). IsWithin (given q y) left) (sym e) within-left)
step-at s c k q r lost more left x a at e (some_stay n d f v had up two both in-d not-left) =
    let item : item_at s c k ≡ Item.Var n = root-before (KeptBefore s c k) s q a.state a.so_far.narrowed (item_at s c k) n (came s c k q lost a) e in
    let made : n < next q = domain_made q n d had in
    loses-step s c k n d left q lost (within f) a at (record {
      made = made;
      had = had;
      item = item;
      narrows = narrows-some (KeptBefore s c k n) (KeptBefore s c (k + 1) n) (λ i. IsTrue (has_value left i)) (variable s n) (variable q n) d f (within_of (variable q n) d had) up two both
          (λ i h. (kept-less s c k n i h, (at i).1 (h k (omega arith) (here-comes s c k (Item.Var n) a.inside item))))
          (λ i h l. kept-more s c k n i h (λ comes. (at i).0 l))
          (a.so_far.narrowed.variables n (subst (λ (z : ℕ). n < z) a.so_far.narrowed.count made));
      lost = (v, in-d, not-left);
    })
step-at s c k q r lost more left x a at e (one_stays n d j v had both in-d not-left) =
    let item : item_at s c k ≡ Item.Var n = root-before (KeptBefore s c k) s q a.state a.so_far.narrowed (item_at s c k) n (came s c k q lost a) e in
    let made : n < next q = domain_made q n d had in
    loses-step s c k n d left q lost (bound (int j)) a at (record {
      made = made;
      had = had;
      item = item;
      narrows = narrows-one (KeptBefore s c k n) (KeptBefore s c (k + 1) n) (λ i. IsTrue (has_value left i)) (variable s n) (variable q n) d j (within_of (variable q n) d had) both
          (λ i h. (kept-less s c k n i h, (at i).1 (h k (omega arith) (here-comes s c k (Item.Var n) a.inside item))))
          (λ i h l. kept-more s c k n i h (λ comes. (at i).0 l))
          (a.so_far.narrowed.variables n (subst (λ (z : ℕ). n < z) a.so_far.narrowed.count made));
      lost = (v, in-d, not-left);
    })

pub step : (s : State) (c : Constraint) (k : ℕ) (q r : State) (lost more : List ℕ) (left : List Span) → StandsAt s c k q lost → IsLeftAt s c k left → IsTaken left q lost (root_item q (item_at s c k)) r more → HasLeft s c (k + 1) r more
step s c k q r lost more left a at taken = step-at s c k q r lost more left (root_item q (item_at s c k)) a at refl taken

-- ---- an item that is left nothing

fails-at : (s : State) (c : Constraint) (k : ℕ) (q : State) (lost : List ℕ) (left : List Span) (x : Item) → StandsAt s c k q lost → IsLeftAt s c k left → item_at s c k ≡ x → Comes s x → ((i : ℤ) → IsTrue (has_value (given q (root_item q x)) i) → IsTrue (has_value left i) → ⊥) → Fails s c
fails-at s c k q lost left x a at e (to_integer i is b) none =
    (Item.Int i, integer_lost k i (here-comes s c k (Item.Int i) a.inside (e ∙ is)) (λ leaves. none i (subst (λ (y : Item). IsTrue (has_value (given q (root_item q y)) i)) (sym is) (only-has i)) ((at i).1 leaves)))
fails-at s c k q lost left x a at e (to_variable n d is has) none =
    let comes : ComesTo s c k (Item.Var n) = here-comes s c k (Item.Var n) a.inside (e ∙ is) in (
      Item.Var n,
      variable_lost k n comes (λ i h kept.
          let in-d : IsTrue (has_value d i) = has_in (given s (Item.Var n)) d i (unbound-domain s n d has).1 h in
          let before : KeptBefore s c k n i = λ j l there. kept j (let m : k < length (places_of c) = a.inside in omega arith) there in
          none i (subst (λ (y : Item). IsTrue (has_value (given q (root_item q y)) i)) (sym is) ((left-values (KeptBefore s c k) s q n d a.state a.so_far.narrowed has i).1 (in-d, before))) ((at i).1 (kept k a.inside comes))),
    )

pub fails : (s : State) (c : Constraint) (k : ℕ) (q : State) (lost : List ℕ) (left : List Span) → StandsAt s c k q lost → IsLeftAt s c k left → ((i : ℤ) → IsTrue (has_value (given q (root_item q (item_at s c k))) i) → IsTrue (has_value left i) → ⊥) → Fails s c
fails s c k q lost left a at none = fails-at s c k q lost left (item_at s c k) a at refl (came s c k q lost a) none

-- ---- what an item meets

later-is : (q : State) (x : Item) → Comes q (root_item q x) → ((m : ℕ) → root_item q x ≡ Item.Var m → x ≡ Item.Var m) → IsLater q x
later-is q (Item.Int i) comes back = tt
later-is q (Item.Var n) (to_variable m d e has) back = inl (d, let same : Item.Var n ≡ Item.Var m = back m e in let one : m ≡ n = cc in subst (λ (j : ℕ). domain_of q j ≡ Some d) one has)
later-is q (Item.Var n) (to_integer i e b) back = inr (i, e)

leaves-given : (c : Constraint) (ds : List (List Span)) (k : ℕ) (i : ℤ) → k < length (places_of c) → Leaves c ds k i → IsTrue (has_value (domain_at ds k) i)
leaves-given c ds k i l h = (h k l (inl refl)).given

pub meets : (s : State) (c : Constraint) (k : ℕ) (q : State) (lost : List ℕ) (before left : List Span) → StandsAt s c k q lost → IsLeftAt s c k left → before ≡ domain_at (given_at s c) k → MayTake q (item_at s c k) before left
meets s c k q lost before left a at e =
    let f : IsNarrowed (KeptBefore s c k) s q = a.so_far.narrowed in
    let x : Item = item_at s c k in
    let comes : Comes s x = came s c k q lost a in
    let is : before ≡ given s x = e ∙ place-domain s (given s) c k a.inside in
    record {
      later = later-is q x (item-comes (KeptBefore s c k) s q a.state f x comes) (λ m same. root-before (KeptBefore s c k) s q a.state f x m comes same);
      had = λ i h. has_in (given s x) before i (sym is) (narrow-within (KeptBefore s c k) s q x a.state f comes i h);
      no_more = λ i h. has_in (domain_at (given_at s c) k) before i (sym e) (leaves-given c (given_at s c) k i a.inside ((at i).0 h));
    }

-- ---- the start and the end

narrows-itself : (s : State) (n : ℕ) (L : ℤ → Type 0) (v : Variable) → IsState s → ((i : ℤ) → L i) → variable s n ≡ v → NarrowsTo L v v
narrows-itself s n L free is all at = left_free
narrows-itself s n L (bound t) is all at = left_bound t
narrows-itself s n L (within d) is all at =
    let good = domain_good s n d is (ap domain_in at) in
    some_left d d good.0 good.1 (λ i. (λ h. (h, all i), λ h. h.0))

pub starts : (s : State) (c : Constraint) → IsState s → HasLeft s c 0 s []
starts s c is = record {
  narrowed = record {
    count = refl;
    variables = λ n l. narrows-itself s n (KeptBefore s c 0 n) (variable s n) is (λ i k m. absurd (omega arith)) refl;
    constraints = refl;
    agents = refl;
    waiting = refl;
  };
  integers = λ k i l. absurd (omega arith);
  losing = λ n h. absurd (none-there n h);
  others = λ n. inr refl;
}

pub ends : (s : State) (c : Constraint) (q : State) (lost : List ℕ) → HasLeft s c (length (places_of c)) q lost → IsRun s c q
ends s c q lost h = record { narrowed = h.narrowed; integers = λ k i comes. h.integers k i (slice_get_within (places_of c) k comes.0 comes.1) comes }

pub narrower : (K : ℕ → ℤ → Type 0) (s q : State) → IsState s → MaySettle s → IsNarrowed K s q → IsNarrower s q
narrower K s q is may f = narrow-compose K s s q is (between-start s is may).narrowed f

-- where nothing was done
pub itself : (s : State) → IsState s → MaySettle s → IsNarrower s s
itself s is may = (between-start s is may).narrowed
