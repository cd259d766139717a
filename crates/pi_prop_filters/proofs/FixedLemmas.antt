-- Fixed places by ascending values, and what they take from another place.
use Rattle.std.specs.Prelude.{◌≡◌, ◌≢◌, ◌↔◌, ℕ, zero, suc, ◌+◌, ◌-◌, ◌<◌, ◌≤◌, Bool, false, IsTrue, List, [], ◌∷◌, ◌++◌, length, get_or, Contains, true, not, ℤ, pos, ◌≤ℤ◌, ◌<ℤ◌, int_lt}
use Rattle.std.specs.Ordering.{int_eq, int_cmp, nat_cmp, ordering_then, is_lt}
use Rattle.std.specs.List.Sorted.{IsSorted, IsPermutation, IsPartitionedBy, IsPartitionPoint}
use Rattle.std.proofs.Common.{arith, sym, ◌∙◌, ap, subst, inl, inr}
use Rattle.std.proofs.lemmas.Bool.{cases_eq, cases_lt, cases_Bool}
use Rattle.std.proofs.lemmas.Bool.Decides.{Decides-int_eq}
use Rattle.std.proofs.lemmas.List.{get_or_default}
use Rattle.std.proofs.lemmas.Int.{ints, by_lt_z}
use Rattle.std.proofs.lemmas.List.Elements.{Contains-get_or, Contains-append_left, Contains-push, Contains-push_cases}
use Rattle.std.proofs.lemmas.List.Sorted.{Contains-permutation, IsPermutation-sym}
use Rattle.pi_constraints.specs.declared.domain.Span.{Span}
use Rattle.pi_constraints.specs.Domain.{IsDomain}
use Rattle.pi_prop_spec.specs.Ends.{least_of, greatest_of, IsFixed, IsFixedTo}
use Rattle.pi_prop_spec.specs.Places.{domain_at}
use Rattle.pi_prop_spec.specs.Rules.{DifferentKeeps}
use Rattle.pi_prop_spec.proofs.EndLemmas.{least-below, greatest-above}
use Rattle.pi_prop_places.specs.Changes.{IsCutAt, IsKeptAt}
use Rattle.pi_prop_places.proofs.KeepLemmas.{keep_cut, keep_like, keep_none, keep_then}
use Rattle.pi_prop_filters.specs.Fixed.{AreFixedPlaces, AscendByValue}

-- ---- finding them

none_in : {n : ℤ} {j : ℕ} → Contains {X = ℤ × ℕ} [] (n, j) → ⊥
none_in (k, l, e) = omega arith

pub no_places : (ds : List (List Span)) → AreFixedPlaces ds 0 []
no_places ds n j = (λ c. absurd (none_in c), λ p. absurd (omega (arith, p.0)))

fixed_now : (ds : List (List Span)) (i : ℕ) (fixed : List (ℤ × ℕ)) (n : ℤ) (j : ℕ) → AreFixedPlaces ds i fixed → (j < i + 1) × IsFixedTo (domain_at ds j) n → (j ≡ i → ⊥) → Contains fixed (n, j)
fixed_now ds i fixed n j f p o = (f n j).1 (omega (arith, p.0), p.1)

-- a place that isn't fixed is passed over
pub place_passed : (ds : List (List Span)) (i : ℕ) (fixed : List (ℤ × ℕ)) → (IsFixed (domain_at ds i) → ⊥) → AreFixedPlaces ds i fixed → AreFixedPlaces ds (i + 1) fixed
place_passed ds i fixed o f n j = (
  λ c. let p = (f n j).0 c in (omega (arith, p.0), p.1),
  λ p. fixed_now ds i fixed n j f p (λ e. o (subst (λ (k : ℕ). IsFixed (domain_at ds k)) e (p.1.0 ∙ sym p.1.1))),
)

same_pair : (v n : ℤ) (i j : ℕ) → ◌≡◌ {A = ℤ × ℕ} (v, i) (n, j) → (v ≡ n) × (i ≡ j)
same_pair v n i j e = (ap (λ (p : ℤ × ℕ). p.0) e, ap (λ (p : ℤ × ℕ). p.1) e)

pair_is : (v n : ℤ) (i j : ℕ) → v ≡ n → i ≡ j → ◌≡◌ {A = ℤ × ℕ} (v, i) (n, j)
pair_is v n i j e f = (λ k. (e k, f k))

-- one that is fixed is put behind the others
pub place_pushed : (ds : List (List Span)) (i : ℕ) (v : ℤ) (fixed : List (ℤ × ℕ)) → IsFixedTo (domain_at ds i) v → AreFixedPlaces ds i fixed → AreFixedPlaces ds (i + 1) (fixed ++ (v, i) ∷ [])
place_pushed ds i v fixed here f n j = (
  λ c. elim (Contains-push_cases fixed (v, i) (n, j) c) [
    | inl o ↦ let p = (f n j).0 o in (omega (arith, p.0), p.1)
    | inr e ↦ let p = same_pair v n i j e in (omega (arith, p.1), subst (λ (k : ℕ). IsFixedTo (domain_at ds k) n) p.1 (subst (IsFixedTo (domain_at ds i)) p.0 here))
  ],
  λ p. elim (cases_eq j i) [
    | inl e ↦
        let there : IsFixedTo (domain_at ds i) n = subst (λ (k : ℕ). IsFixedTo (domain_at ds k) n) e p.1 in
        subst (Contains (fixed ++ (v, i) ∷ [])) (pair_is v n i j (sym here.0 ∙ there.0) (sym e)) (Contains-push fixed (v, i))
    | inr o ↦ Contains-append_left fixed ((v, i) ∷ []) (n, j) (fixed_now ds i fixed n j f p o)
  ],
)

-- their order doesn't count
pub places_moved : (ds : List (List Span)) (many : ℕ) (fixed moved : List (ℤ × ℕ)) → IsPermutation fixed moved → AreFixedPlaces ds many fixed → AreFixedPlaces ds many moved
places_moved ds many fixed moved same f n j = (
  λ c. (f n j).0 (Contains-permutation moved fixed (n, j) (IsPermutation-sym fixed moved same) c),
  λ p. Contains-permutation fixed moved (n, j) same ((f n j).1 p),
)

-- ---- their order

not_less : (x y : ℤ) (i j : ℕ) → is_lt (ordering_then (int_cmp x y) (nat_cmp i j)) ≡ false → y ≤ℤ x
not_less x y i j h = by_lt_z x y (λ l. absurd (grind (arith, ints))) (λ l. l)

neighbours : (fixed : List (ℤ × ℕ)) → IsSorted (λ x y. ordering_then (int_cmp x.0 y.0) (nat_cmp x.1 y.1)) fixed → (k : ℕ) (d : ℤ × ℕ) → k + 1 < length fixed → (get_or fixed k d).0 ≤ℤ (get_or fixed (k + 1) d).0
neighbours fixed up k d l = not_less ((get_or fixed (k + 1) d).0) ((get_or fixed k d).0) ((get_or fixed (k + 1) d).1) ((get_or fixed k d).1) (up k d (omega arith) l)

rise_far : {X : Type 0} (f : X → ℤ) (xs : List X) → ((k : ℕ) (d : X) → k + 1 < length xs → f (get_or xs k d) ≤ℤ f (get_or xs (k + 1) d)) → (i m : ℕ) (d : X) → i + m < length xs → f (get_or xs i d) ≤ℤ f (get_or xs (i + m) d)
rise_far {X} f xs up i zero d l = let same : i ≡ i + 0 = omega arith in subst (λ (k : ℕ). f (get_or xs i d) ≤ℤ f (get_or xs k d)) same (omega (arith, ints))
rise_far {X} f xs up i (suc m) d l =
    let before = rise_far f xs up i m d (omega arith) in
    let step = up (i + m) d (omega arith) in
    let same : (i + m) + 1 ≡ i + suc m = omega arith in
    subst (λ (k : ℕ). f (get_or xs i d) ≤ℤ f (get_or xs k d)) same (omega (arith, ints))

-- where no item has less than the one before it, none has less than any before it
pub ascend_far : {X : Type 0} (f : X → ℤ) (xs : List X) → ((k : ℕ) (d : X) → k + 1 < length xs → f (get_or xs k d) ≤ℤ f (get_or xs (k + 1) d)) → (i j : ℕ) (d : X) → i ≤ j → j < length xs → f (get_or xs i d) ≤ℤ f (get_or xs j d)
ascend_far {X} f xs up i j d l m =
    let same : i + (j - i) ≡ j = omega arith in
    subst (λ (k : ℕ). f (get_or xs i d) ≤ℤ f (get_or xs k d)) same (rise_far f xs up i (j - i) d (omega arith))

pub sorted_ascend : (fixed : List (ℤ × ℕ)) → IsSorted (λ x y. ordering_then (int_cmp x.0 y.0) (nat_cmp x.1 y.1)) fixed → AscendByValue fixed
sorted_ascend fixed up = ascend_far (λ (x : ℤ × ℕ). x.0) fixed (neighbours fixed up)

-- no value below a number comes behind one that isn't
pub IsPartitionedBy-below : (fixed : List (ℤ × ℕ)) (lo : ℤ) → AscendByValue fixed → IsPartitionedBy (λ x. int_lt x.0 lo) fixed
IsPartitionedBy-below fixed lo up i j d l m t = let rise = up i j d l m in grind (arith, ints)

-- ---- what they take

abbrev pub fixed_at : List (ℤ × ℕ) → ℕ → ℤ × ℕ
fixed_at fixed t = get_or fixed t (pos 0, 0)

-- what the fixed places from one number to another leave of the values of place k
abbrev pub LeftBy : List (ℤ × ℕ) → ℕ → ℕ → ℕ → ℤ → Type 0
LeftBy fixed start stop k n = (t : ℕ) → start ≤ t → t < stop → (fixed_at fixed t).1 ≢ k → n ≢ (fixed_at fixed t).0

-- what all of them leave
abbrev pub LeftByAll : List (ℤ × ℕ) → ℕ → ℤ → Type 0
LeftByAll fixed k n = (j : ℕ) → j ≢ k → Contains fixed (n, j) → ⊥

pub left_start : (fixed : List (ℤ × ℕ)) (start k : ℕ) (ds : List (List Span)) → IsKeptAt k (LeftBy fixed start start k) ds ds
left_start fixed start k ds = keep_none k (LeftBy fixed start start k) ds (λ n h t l m. absurd (omega arith))

both : (b : Bool) → b ≡ true → not b ≡ true → ⊥
both true t f = absurd (cc)
both false t f = absurd (cc)

not_equal : (m v : ℤ) → IsTrue (not (int_eq m v)) ↔ (m ≢ v)
not_equal m v = (
  λ t e. absurd (both (int_eq m v) ((Decides-int_eq m v).1 e) t),
  λ o. elim (cases_Bool (int_eq m v)) [ inl t ↦ absurd (o ((Decides-int_eq m v).0 t)) | inr f ↦ ap not f ],
)

-- the value of one more fixed place goes
pub left_taken : (fixed : List (ℤ × ℕ)) (start i k : ℕ) (v : ℤ) (ds es fs : List (List Span)) → start ≤ i → IsKeptAt k (LeftBy fixed start i k) ds es → IsCutAt k (λ m. not (int_eq m v)) es fs
    → v ≡ (fixed_at fixed i).0 → (fixed_at fixed i).1 ≢ k → IsKeptAt k (LeftBy fixed start (i + 1) k) ds fs
left_taken fixed start i k v ds es fs b f g e o =
    let cut : IsKeptAt k (λ n. n ≢ v) es fs = keep_cut k (λ m. not (int_eq m v)) (λ n. n ≢ v) es fs (λ n h. not_equal n v) g in
    keep_like k (λ n. LeftBy fixed start i k n × (n ≢ v)) (LeftBy fixed start (i + 1) k) ds fs
    (λ n h. (
      λ p t l m q. elim (cases_eq t i) [
        | inl s ↦ λ r. p.1 (r ∙ (ap (λ (x : ℕ). (fixed_at fixed x).0) s ∙ sym e))
        | inr s ↦ p.0 t l (omega arith) q
      ],
      λ p. (λ t l m q. p t l (omega arith) q, λ r. p i b (omega arith) o (r ∙ e)),
    )) (keep_then k (LeftBy fixed start i k) (λ n. n ≢ v) ds es fs f cut)

-- the place itself takes nothing from it
pub left_own : (fixed : List (ℤ × ℕ)) (start i k : ℕ) (ds es : List (List Span)) → (fixed_at fixed i).1 ≡ k → IsKeptAt k (LeftBy fixed start i k) ds es → IsKeptAt k (LeftBy fixed start (i + 1) k) ds es
left_own fixed start i k ds es e f = keep_like k (LeftBy fixed start i k) (LeftBy fixed start (i + 1) k) ds es
    (λ n h. (
      λ p t l m q. elim (cases_eq t i) [
        | inl s ↦ absurd (q (ap (λ (x : ℕ). (fixed_at fixed x).1) s ∙ e))
        | inr s ↦ p t l (omega arith) q
      ],
      λ p t l m q. p t l (omega arith) q,
    )) f

-- those below the least value, and above the greatest, take nothing either
pub left_all : (fixed : List (ℤ × ℕ)) (start stop k : ℕ) (ds es : List (List Span)) → IsDomain (domain_at ds k) → ((t : ℕ) → t < start → (fixed_at fixed t).0 <ℤ least_of (domain_at ds k))
    → ((t : ℕ) → stop ≤ t → t < length fixed → greatest_of (domain_at ds k) <ℤ (fixed_at fixed t).0) → stop ≤ length fixed → IsKeptAt k (LeftBy fixed start stop k) ds es → IsKeptAt k (LeftByAll fixed k) ds es
left_all fixed start stop k ds es up below above inside f = keep_like k (LeftBy fixed start stop k) (LeftByAll fixed k) ds es
    (λ n h.
    let low : least_of (domain_at ds k) ≤ℤ n = least-below (domain_at ds k) n up h in
    let high : n ≤ℤ greatest_of (domain_at ds k) = greatest-above (domain_at ds k) n up h in (
      λ p j o c.
          let t : ℕ = c.0 in
          let here : fixed_at fixed t ≡ (n, j) = get_or_default fixed t (pos 0, 0) (n, j) c.1 ∙ c.2 in
          let value : (fixed_at fixed t).0 ≡ n = ap (λ (x : ℤ × ℕ). x.0) here in
          let place : (fixed_at fixed t).1 ≡ j = ap (λ (x : ℤ × ℕ). x.1) here in
          elim (cases_lt t start) [
            | inl l ↦ let m = below t l in omega (arith, ints)
            | inr l ↦ elim (cases_lt t stop) [
              | inr m ↦ let b = above t m c.1 in omega (arith, ints)
              | inl m ↦ p t l m (λ e. o (sym place ∙ e)) (sym value)
            ]
          ],
      λ p t l m q e. p ((fixed_at fixed t).1) q
          (subst (λ (z : ℤ). Contains fixed (z, (fixed_at fixed t).1)) (sym e) (Contains-get_or fixed t (pos 0, 0) (omega arith))),
    )) f

-- what the fixed places leave is what the filter keeps
pub different_keeps : (ds : List (List Span)) (fixed : List (ℤ × ℕ)) (k : ℕ) (n : ℤ) → AreFixedPlaces ds (length ds) fixed → LeftByAll fixed k n ↔ DifferentKeeps ds k n
different_keeps ds fixed k n f = (
  λ p j l o here e. p j o ((f n j).1 (l, (sym e, sym here ∙ sym e))),
  λ p j o c. let there = (f n j).0 c in p j there.0 o (there.1.0 ∙ sym there.1.1) (sym there.1.0),
)

-- where a value lies above a number, so do those behind it
pub above_from : (fixed : List (ℤ × ℕ)) (i : ℕ) (top : ℤ) → AscendByValue fixed → top <ℤ (fixed_at fixed i).0 → (t : ℕ) → i ≤ t → t < length fixed → top <ℤ (fixed_at fixed t).0
above_from fixed i top up h t l m = let rise = up i t (pos 0, 0) l m in omega (arith, ints)

pub below_start : (fixed : List (ℤ × ℕ)) (start : ℕ) (lo least : ℤ) → lo ≡ least → IsPartitionPoint (λ x. int_lt x.0 lo ≡ true) (λ x. int_lt x.0 lo ≡ false) fixed start → (t : ℕ) → t < start → (fixed_at fixed t).0 <ℤ least
below_start fixed start lo least e point t l = let p : int_lt (fixed_at fixed t).0 lo ≡ true = point.0 t (pos 0, 0) (omega arith) l in grind (arith, ints, e)
