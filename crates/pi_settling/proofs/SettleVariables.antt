-- Variables that are left some of their values, as `Settle` computes them.
use Rattle.std.specs.Prelude.{◌≡◌, ◌↔◌, ◌⊎◌, ℕ, zero, suc, ◌+◌, ◌<◌, ◌≤◌, ℤ, ◌<ℤ◌, Bool, true, IsTrue, List, [], ◌∷◌, length, filter, get_or, sum_by, AllPairs, Contains, Option, Some, None, option_map, option_and_then, refl}
use Rattle.std.specs.List.{list_any}
use Rattle.std.specs.Ordering.{int_eq}
use Rattle.std.proofs.Common.{arith, sym, ◌∙◌, ap, subst, inl, inr}
use Rattle.std.proofs.lemmas.Bool.{and_parts, and_from}
use Rattle.std.proofs.lemmas.Int.{ints}
use Rattle.std.proofs.lemmas.List.Elements.{All-contains, filter_passes}
use Rattle.std.proofs.lemmas.List.Kept.{AllPairs-filter}
use Rattle.std.proofs.lemmas.List.Sums.{sum_by-cons}
use Rattle.pi_terms.specs.Tree.{int}
use Rattle.pi_constraints.specs.declared.domain.Span.{Span}
use Rattle.pi_constraints.specs.Domain.{IsDomain, has_value, values_of, size_of}
use Rattle.pi_constraints.proofs.DomainLemmas.{values_lie_in_spans, values_ascend, values_are_within_bounds}
use Rattle.pi_constraints.proofs.JoinLemmas.{listed, from_listed}
use Rattle.pi_constraints.specs.State.{Variable, free, within, bound, IsVariable}
use Rattle.pi_settling.specs.Values.{can_have, domain_of_values}
use Rattle.pi_settling.specs.Narrowed.{NarrowsTo, left_free, left_bound, some_left, one_left}
use Rattle.pi_settling.specs.Settle.{variable_with, variable_left, variables_left, count_within_domain}
use Rattle.pi_settling.proofs.ValueLemmas.{values_are_a_domain, values_are_its_own}
use Rattle.pi_settling.proofs.SizeLemmas.{size-within, same-or-lost, size-lost, in-front, behind, front-or-behind, none-there, from-filter, to-filter}

-- ---- the values that are left

-- values that are those of a domain that are kept
abbrev AreKept : (ℤ → Type 0) → List Span → List ℤ → Type 0
AreKept K d is = (n : ℤ) → Contains is n ↔ (IsTrue (has_value d n) × K n)

abbrev AllDiffer : List ℤ → Type 0
AllDiffer is = AllPairs (λ i j. i <ℤ j) is

filter-keeps : (p : ℤ → Bool) (d : List Span) → IsDomain d → AreKept (λ n. IsTrue (p n)) d (filter p (values_of d))
filter-keeps p d up n = (
  λ c. ((values_lie_in_spans d up n).1 (from-filter p (values_of d) n c), All-contains (λ i. p i ≡ true) (filter p (values_of d)) n (filter_passes p (values_of d)) c),
  λ h. to-filter p (values_of d) n ((values_lie_in_spans d up n).0 h.0) h.1,
)

bounds-can : (n : ℤ) (d : List Span) → IsDomain d → IsTrue (has_value d n) → can_have n ≡ true
bounds-can n d up h = let b = values_are_within_bounds d n up h in grind (arith, ints, b.0, b.1)

has-values : (K : ℤ → Type 0) (d : List Span) (is : List ℤ) → IsDomain d → AreKept K d is → (n : ℤ) → IsTrue (has_value (domain_of_values is) n) ↔ (IsTrue (has_value d n) × K n)
has-values K d is up kept n = (
  λ h. (kept n).0 (listed is n (and_parts (can_have n) (list_any (int_eq n) is) (sym (values_are_its_own is n) ∙ h)).1),
  λ h. values_are_its_own is n ∙ and_from (can_have n) (list_any (int_eq n) is) (bounds-can n d up h.0) (from_listed is n ((kept n).1 h)),
)

-- a domain in which two values differ has two or more
only-one : (x y z : ℤ) → Contains (z ∷ []) x → Contains (z ∷ []) y → x ≡ y
only-one x y z c d = elim (front-or-behind z x [] c) [
  | inl e ↦ elim (front-or-behind z y [] d) [ inl f ↦ sym e ∙ f | inr none ↦ absurd (none-there y none) ]
  | inr none ↦ absurd (none-there x none)
]

two-in : (is : List ℤ) (x y : ℤ) → (x ≡ y → ⊥) → Contains is x → Contains is y → 2 ≤ length is
two-in [] x y differ c d = absurd (none-there x c)
two-in (i ∷ []) x y differ c d = absurd (differ (only-one x y i c d))
two-in (i ∷ j ∷ rest) x y differ c d = omega arith

first-two : (i j : ℤ) (rest : List ℤ) → AllDiffer (i ∷ j ∷ rest) → i ≡ j → ⊥
first-two i j rest ascend e = let less : i <ℤ j = ascend 0 1 i (omega arith) (omega arith) in omega (arith, ints, less, e)

-- ---- one variable

-- what it is that is left these values
with-values : (K : ℤ → Type 0) (d : List Span) (is : List ℤ) (w : Variable) → IsDomain d → AreKept K d is → AllDiffer is → variable_with is ≡ Some w → NarrowsTo K (within d) w
with-values K d [] w up kept ascend e = absurd (cc)
with-values K d (i ∷ []) w up kept ascend e =
    let same : bound (int i) ≡ w = cc in
    subst (NarrowsTo K (within d)) same (one_left d i (λ j. (
      λ h. (kept j).0 (subst (Contains (i ∷ [])) (sym h) (in-front i [])),
      λ h. only-one j i i ((kept j).1 h) (in-front i []),
    )))
with-values K d (i ∷ j ∷ rest) w up kept ascend e =
    let is : List ℤ = i ∷ j ∷ rest in
    let f : List Span = domain_of_values is in
    let vp : IsDomain f = values_are_a_domain is in
    let has : (n : ℤ) → IsTrue (has_value f n) ↔ (IsTrue (has_value d n) × K n) = has-values K d is up kept in
    let there : (n : ℤ) → Contains is n → Contains (values_of f) n = λ n c. (values_lie_in_spans f vp n).0 ((has n).1 ((kept n).0 c)) in
    let two : 2 ≤ size_of f = two-in (values_of f) i j (first-two i j rest ascend) (there i (in-front i (j ∷ rest))) (there j (behind i j (j ∷ rest) (in-front j rest))) in
    let same : within f ≡ w = cc in
    subst (NarrowsTo K (within d)) same (some_left d f vp two has)

pub variable-narrows : (p : ℤ → Bool) (many : ℕ) (v w : Variable) → IsVariable many v → variable_left p v ≡ Some w → NarrowsTo (λ n. IsTrue (p n)) v w
variable-narrows p many free w good e = let same : free ≡ w = cc in subst (NarrowsTo (λ n. IsTrue (p n)) free) same left_free
variable-narrows p many (bound t) w good e = let same : bound t ≡ w = cc in subst (NarrowsTo (λ n. IsTrue (p n)) (bound t)) same (left_bound t)
variable-narrows p many (within d) w good e =
    with-values (λ n. IsTrue (p n)) d (filter p (values_of d)) w good.0 (filter-keeps p d good.0) (AllPairs-filter (λ i j. i <ℤ j) p (values_of d) (values_ascend d good.0)) e

nothing-with : (is : List ℤ) → variable_with is ≡ None → is ≡ []
nothing-with [] e = refl
nothing-with (i ∷ []) e = absurd (cc)
nothing-with (i ∷ j ∷ rest) e = absurd (cc)

-- one that is left nothing has a domain without a value that is kept
pub variable-fails : (p : ℤ → Bool) (v : Variable) → variable_left p v ≡ None → (d : List Span) × (v ≡ within d) × (filter p (values_of d) ≡ [])
variable-fails p free e = absurd (cc)
variable-fails p (bound t) e = absurd (cc)
variable-fails p (within d) e = (d, refl, nothing-with (filter p (values_of d)) e)

-- it has no more values, and as many only where it is what it was
pub variable-falls : (K : ℤ → Type 0) (many : ℕ) (v w : Variable) → IsVariable many v → NarrowsTo K v w →
    (count_within_domain w ≤ count_within_domain v) × (count_within_domain w ≡ count_within_domain v → w ≡ v)
variable-falls K many v w good left_free = (omega arith, λ e. refl)
variable-falls K many v w good (left_bound t) = (omega arith, λ e. refl)
variable-falls K many v w good (one_left d i all) = (omega arith, λ e. absurd (omega (arith, good.1, e)))
variable-falls K many v w good (some_left d f vp two all) =
    let sub : (n : ℤ) → IsTrue (has_value f n) → IsTrue (has_value d n) = λ n h. ((all n).0 h).0 in (
      size-within d f good.0 vp sub,
      λ e. elim (same-or-lost d f good.0 vp sub) [
        | inl same ↦ ap within same
        | inr (n, has, lost) ↦ absurd (let less : size_of f < size_of d = size-lost d f n good.0 vp sub has lost in omega (arith, less, e))
      ],
    )

-- ---- all variables

-- a list and what is made of each of its variables
pub record AreLeft (kept : ℕ → ℤ → Bool) (n : ℕ) (vs ws : List Variable) : Type 0 where
  pub count : length ws ≡ length vs
  pub each : (k : ℕ) → k < length vs → NarrowsTo (λ i. IsTrue (kept (n + k) i)) (get_or vs k free) (get_or ws k free)
  pub fewer : sum_by count_within_domain ws ≤ sum_by count_within_domain vs
  pub same : sum_by count_within_domain ws ≡ sum_by count_within_domain vs → ws ≡ vs

-- the parts of a list that is there
pub parts-of : (o : Option Variable) (p : Option (List Variable)) (ws : List Variable) → option_and_then (λ w. option_map (λ us. w ∷ us) p) o ≡ Some ws →
    (w : Variable) × (us : List Variable) × (o ≡ Some w) × (p ≡ Some us) × (w ∷ us ≡ ws)
parts-of None p ws e = absurd (cc)
parts-of (Some w) None ws e = absurd (cc)
parts-of (Some w) (Some us) ws e = (w, us, refl, refl, let same : w ∷ us ≡ ws = cc in same)

abbrev pub AreVariables : ℕ → List Variable → Type 0
AreVariables many vs = (k : ℕ) → k < length vs → IsVariable many (get_or vs k free)

sums-same : (a b c d : ℕ) → a ≤ b → c ≤ d → a + c ≡ b + d → (a ≡ b) × (c ≡ d)
sums-same a b c d l m e = (omega (arith, l, m, e), omega (arith, l, m, e))

one-more : (kept : ℕ → ℤ → Bool) (many n : ℕ) (v w : Variable) (vs us : List Variable) → IsVariable many v → NarrowsTo (λ i. IsTrue (kept n i)) v w → AreLeft kept (suc n) vs us → AreLeft kept n (v ∷ vs) (w ∷ us)
one-more kept many n v w vs us good here rest =
    let falls = variable-falls (λ i. IsTrue (kept n i)) many v w good here in
    let new : sum_by count_within_domain (w ∷ us) ≡ count_within_domain w + sum_by count_within_domain us = sum_by-cons count_within_domain w us in
    let old : sum_by count_within_domain (v ∷ vs) ≡ count_within_domain v + sum_by count_within_domain vs = sum_by-cons count_within_domain v vs in
    record {
      count = ap suc rest.count;
      each = by;
      fewer = omega (arith, new, old, falls.0, rest.fewer);
      same = λ e.
          let both = sums-same (count_within_domain w) (count_within_domain v) (sum_by count_within_domain us) (sum_by count_within_domain vs) falls.0 rest.fewer (sym new ∙ (e ∙ old)) in
          (λ i. falls.1 both.0 i ∷ rest.same both.1 i);
    }
  where
    by : (k : ℕ) → k < length (v ∷ vs) → NarrowsTo (λ i. IsTrue (kept (n + k) i)) (get_or (v ∷ vs) k free) (get_or (w ∷ us) k free)
    by zero l = subst (λ (m : ℕ). NarrowsTo (λ i. IsTrue (kept m i)) v w) (let e : n ≡ n + 0 = omega arith in e) here
    by (suc k) l = subst (λ (m : ℕ). NarrowsTo (λ i. IsTrue (kept m i)) (get_or vs k free) (get_or us k free)) (let e : suc n + k ≡ n + suc k = omega arith in e) (rest.each k (omega (arith, l)))

pub variables-left : (kept : ℕ → ℤ → Bool) (many n : ℕ) (vs ws : List Variable) → AreVariables many vs → variables_left kept n vs ≡ Some ws → AreLeft kept n vs ws
unfolding variables_left
variables-left kept many n [] ws good e =
    let same : [] ≡ ws = cc in
    subst (AreLeft kept n []) same (record { count = refl; each = λ k l. absurd (omega (arith, l)); fewer = omega arith; same = λ e. refl })
variables-left kept many n (v ∷ vs) ws good e =
    let p = parts-of (variable_left (kept n) v) (variables_left kept (suc n) vs) ws e in
    subst (AreLeft kept n (v ∷ vs)) p.4
    (one-more kept many n v p.0 vs p.1 (good 0 (omega arith)) (variable-narrows (kept n) many v p.0 (good 0 (omega arith)) p.2)
    (variables-left kept many (suc n) vs p.1 (λ k l. good (suc k) (omega (arith, l))) p.3))

-- where there are none, one variable is left nothing
missing-part : (o : Option Variable) (p : Option (List Variable)) → option_and_then (λ w. option_map (λ us. w ∷ us) p) o ≡ None → (o ≡ None) ⊎ (p ≡ None)
missing-part None p e = inl refl
missing-part (Some w) None e = inr refl
missing-part (Some w) (Some us) e = absurd (cc)

pub variables-fail : (kept : ℕ → ℤ → Bool) (n : ℕ) (vs : List Variable) → variables_left kept n vs ≡ None → (k : ℕ) × (k < length vs) × (variable_left (kept (n + k)) (get_or vs k free) ≡ None)
unfolding variables_left
variables-fail kept n [] e = absurd (cc)
variables-fail kept n (v ∷ vs) e = elim (missing-part (variable_left (kept n) v) (variables_left kept (suc n) vs) e) [
  | inl here ↦ (0, omega arith, subst (λ (m : ℕ). variable_left (kept m) v ≡ None) (let same : n ≡ n + 0 = omega arith in same) here)
  | inr rest ↦
      let w = variables-fail kept (suc n) vs rest in
      (suc w.0, omega (arith, w.1), subst (λ (m : ℕ). variable_left (kept m) (get_or vs w.0 free) ≡ None) (let same : suc n + w.0 ≡ n + suc w.0 = omega arith in same) w.2)
]
