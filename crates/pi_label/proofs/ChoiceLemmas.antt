-- Which alternative stands behind another one.
use Rattle.std.specs.Prelude.{◌≡◌, ◌≢◌, ◌↔◌, ◌⊎◌, ℕ, zero, suc, ◌+◌, ◌-◌, ◌<◌, ◌≤◌, ◌&&◌, ℤ, pos, negsuc, ◌+ℤ◌, ◌-ℤ◌, ◌≤ℤ◌, ◌<ℤ◌, int_le, Bool, true, false, IsTrue, List, [], ◌∷◌, length, map, reverse, get_or, AllPairs, Contains, Option, Some, None, IfSome, IsNone, option_map, slice_get, refl}
use Rattle.std.specs.Int.{int_div_euclid}
use Rattle.std.proofs.Common.{arith, sym, ◌∙◌, ap, subst, inl, inr}
use Rattle.std.proofs.lemmas.Int.{ints}
use Rattle.std.proofs.lemmas.List.{length-reverse, get_or-reverse, reverse-reverse, get_or_default}
use Rattle.std.proofs.lemmas.List.Elements.{Contains-get_or}
use Rattle.std.proofs.lemmas.List.Sorted.{Contains-permutation, IsPermutation-reverse}
use Rattle.std.proofs.lemmas.Option.{slice_get-map, slice_get_within, slice_get-get_or, slice_get_past, get_or_from_slice_get}
use Rattle.pi_constraints.specs.declared.domain.Span.{Span}
use Rattle.pi_constraints.specs.Domain.{IsDomain, has_value, values_of, IsLeastValue, IsGreatestValue, IsWithinBounds}
use Rattle.pi_constraints.proofs.DomainLemmas.{values_lie_in_spans, values_ascend, values_are_within_bounds}
use Rattle.pi_prop_spec.specs.Ends.{least_of, greatest_of}
use Rattle.pi_prop_spec.proofs.EndLemmas.{least-has, greatest-has, least-below, greatest-above}
use Rattle.pi_settling.specs.Options.{up, down}
use Rattle.pi_settling.specs.Choices.{Alternative, is_value, at_most, above, halved, middle, alternatives}
use Rattle.pi_label.specs.declared.options.ValueWord.{ValueWord}
use Rattle.pi_label.specs.Words.{value_word}
use Rattle.pi_label.specs.Follows.{Follows}
use Rattle.pi_label.specs.Beside.{IsNextAbove, IsNextBelow, AreEnds}

-- ---- the values beside a number

both : (a b : Bool) → (a && b) ≡ true → (a ≡ true) × (b ≡ true)
both true true h = (refl, refl)
both true false h = cc
both false b h = cc

none-of : (d made : List Span) (test : ℤ → Bool) (m : ℤ) → ((m : ℤ) → has_value made m ≡ (has_value d m && test m)) → made ≡ [] → IsTrue (has_value d m) → test m ≡ false
unfolding has_value
none-of d made test m values empty h =
    let none : has_value made m ≡ false = ap (λ ss. has_value ss m) empty in
    let e = values m in
    grind arith

kept-of : (d made : List Span) (test : ℤ → Bool) (m : ℤ) → ((m : ℤ) → has_value made m ≡ (has_value d m && test m)) → IsTrue (has_value d m) → test m ≡ true → IsTrue (has_value made m)
kept-of d made test m values h t = let e = values m in grind arith

pub next-above : (d made : List Span) (n next : ℤ) (found : Option ℤ) → ((m : ℤ) → has_value made m ≡ (has_value d m && int_le next m)) → IfSome found (IsLeastValue made) → (IsNone found ↔ (made ≡ [])) → next ≡ n +ℤ pos 1 → IsNextAbove d n found
next-above d made n next None values some none e = λ m h.
    let t : int_le next m ≡ false = none-of d made (int_le next) m values (none.0 refl) h in
    grind (arith, ints)
next-above d made n next (Some v) values some none e =
    let here = both (has_value d v) (int_le next v) (sym (values v) ∙ some.is_value) in
    let low : int_le next v ≡ true = here.1 in
    (here.0, grind (arith, ints), λ m h l. some.none_below m (kept-of d made (int_le next) m values h (grind (arith, ints))))

pub next-below : (d made : List Span) (n next : ℤ) (found : Option ℤ) → ((m : ℤ) → has_value made m ≡ (has_value d m && int_le m next)) → IfSome found (IsGreatestValue made) → (IsNone found ↔ (made ≡ [])) → next ≡ n -ℤ pos 1 → IsNextBelow d n found
next-below d made n next None values some none e = λ m h.
    let t : int_le m next ≡ false = none-of d made (λ k. int_le k next) m values (none.0 refl) h in
    grind (arith, ints)
next-below d made n next (Some v) values some none e =
    let here = both (has_value d v) (int_le v next) (sym (values v) ∙ some.is_value) in
    let low : int_le v next ≡ true = here.1 in
    (here.0, grind (arith, ints), λ m h l. some.none_above m (kept-of d made (λ k. int_le k next) m values h (grind (arith, ints))))

-- ---- a list of numbers in an order

abbrev IsStrict : (ℤ → ℤ → Type 0) → Type 0
IsStrict R = (a b : ℤ) → R a b → R b a → ⊥

abbrev IsNext : (ℤ → ℤ → Type 0) → List ℤ → ℤ → Option ℤ → Type 0
IsNext R xs n None = (m : ℤ) → Contains xs m → R n m → ⊥
IsNext R xs n (Some v) = Contains xs v × R n v × ((m : ℤ) → Contains xs m → R n m → R m v → ⊥)

at : (xs : List ℤ) (k : ℕ) → k < length xs → Contains xs (get_or xs k (pos 0))
at xs k low = Contains-get_or xs k (pos 0) low

-- a number that stands behind another one in the order stands behind it in the list
behind : (R : ℤ → ℤ → Type 0) (xs : List ℤ) (j k : ℕ) → IsStrict R → AllPairs R xs → j < length xs → k < length xs → R (get_or xs k (pos 0)) (get_or xs j (pos 0)) → k < j
behind R xs j k strict pairs inside low r = elim (three j k) [
  | inl less ↦ absurd (strict _ _ r (pairs j k (pos 0) less low))
  | inr rest ↦ elim rest [
    | inl same ↦ absurd (let q : R (get_or xs k (pos 0)) (get_or xs k (pos 0)) = subst (λ i. R (get_or xs k (pos 0)) (get_or xs i (pos 0))) same r in strict _ _ q q)
    | inr more ↦ more
  ]
]
  where
    three : (j k : ℕ) → (j < k) ⊎ ((j ≡ k) ⊎ (k < j))
    three j k = grind arith

within-or-past : (k n : ℕ) → (k < n) ⊎ (n ≤ k)
within-or-past k n = grind arith

next-in : (R : ℤ → ℤ → Type 0) (xs : List ℤ) (n : ℤ) (k : ℕ) (found : Option ℤ) → IsStrict R → AllPairs R xs → IsNext R xs n found → slice_get xs k ≡ Some n → found ≡ slice_get xs (k + 1)
next-in R xs n k None strict pairs next here = elim (within-or-past (k + 1) (length xs)) [
  | inl inside ↦ absurd (
      let low : k < length xs = omega arith in
      let is : get_or xs k (pos 0) ≡ n = get_or_from_slice_get xs k n (pos 0) here in
      next (get_or xs (k + 1) (pos 0)) (at xs (k + 1) inside) (subst (λ m. R m (get_or xs (k + 1) (pos 0))) is (pairs k (k + 1) (pos 0) (omega arith) inside)))
  | inr past ↦ sym (slice_get_past xs (k + 1) past)
]
next-in R xs n k (Some v) strict pairs (has, r, between) here =
    let low : k < length xs = slice_get_within xs k n here in
    let is : get_or xs k (pos 0) ≡ n = get_or_from_slice_get xs k n (pos 0) here in
    let j : ℕ = has.0 in
    let inside : j < length xs = has.1 in
    let v-is : get_or xs j (pos 0) ≡ v = sym (get_or_default xs j v (pos 0) inside) ∙ has.2 in
    let rr : R (get_or xs k (pos 0)) (get_or xs j (pos 0)) = subst (λ m. R m (get_or xs j (pos 0))) (sym is) (subst (R n) (sym v-is) r) in
    let l : k < j = behind R xs j k strict pairs inside low rr in
    elim (two j k l) [
      | inl same ↦ ap Some (sym v-is ∙ ap (λ i. get_or xs i (pos 0)) same) ∙ sym (slice_get-get_or xs (k + 1) (pos 0) (omega arith))
      | inr more ↦ absurd (
          let within : k + 1 < length xs = omega arith in
          between (get_or xs (k + 1) (pos 0)) (at xs (k + 1) within) (subst (λ m. R m (get_or xs (k + 1) (pos 0))) is (pairs k (k + 1) (pos 0) (omega arith) within))
          (subst (R (get_or xs (k + 1) (pos 0))) v-is (pairs (k + 1) j (pos 0) more inside)))
    ]
  where
    two : (j k : ℕ) → k < j → (j ≡ k + 1) ⊎ (k + 1 < j)
    two j k l = grind arith

first-in : (R : ℤ → ℤ → Type 0) (xs : List ℤ) (v : ℤ) → IsStrict R → AllPairs R xs → Contains xs v → ((m : ℤ) → Contains xs m → R m v → ⊥) → Some v ≡ slice_get xs 0
first-in R xs v strict pairs has none =
    let j : ℕ = has.0 in
    let inside : j < length xs = has.1 in
    let v-is : get_or xs j (pos 0) ≡ v = sym (get_or_default xs j v (pos 0) inside) ∙ has.2 in
    elim (zero-or-more j) [
      | inl same ↦ ap Some (sym v-is ∙ ap (λ i. get_or xs i (pos 0)) same) ∙ sym (slice_get-get_or xs 0 (pos 0) (omega arith))
      | inr more ↦ absurd (
          let some : 0 < length xs = omega arith in
          none (get_or xs 0 (pos 0)) (at xs 0 some) (subst (R (get_or xs 0 (pos 0))) v-is (pairs 0 j (pos 0) more inside)))
    ]
  where
    zero-or-more : (j : ℕ) → (j ≡ 0) ⊎ (0 < j)
    zero-or-more j = grind arith

-- ---- the values of a domain, ascending and descending

abbrev IsBelow : ℤ → ℤ → Type 0
IsBelow a b = a <ℤ b

abbrev IsAbove : ℤ → ℤ → Type 0
IsAbove a b = b <ℤ a

below-strict : IsStrict IsBelow
below-strict a b h k = omega (arith, ints)

above-strict : IsStrict IsAbove
above-strict a b h k = omega (arith, ints)

reversed-pairs : (xs : List ℤ) → AllPairs IsBelow xs → AllPairs IsAbove (reverse xs)
reversed-pairs xs pairs i j d less low =
    let many : length (reverse xs) ≡ length xs = length-reverse xs in
    let inside : j < length xs = omega arith in
    let at_i = get_or-reverse xs i d (omega arith) in
    let at_j = get_or-reverse xs j d inside in
    let r : get_or xs (length xs - 1 - j) d <ℤ get_or xs (length xs - 1 - i) d = pairs (length xs - 1 - j) (length xs - 1 - i) d (omega arith) (omega arith) in
    rw (at_i, at_j) r

to-reversed : (xs : List ℤ) (m : ℤ) → Contains xs m → Contains (reverse xs) m
to-reversed xs m h = Contains-permutation xs (reverse xs) m (IsPermutation-reverse xs) h

from-reversed : (xs : List ℤ) (m : ℤ) → Contains (reverse xs) m → Contains xs m
from-reversed xs m h = subst (λ ys. Contains ys m) (reverse-reverse xs) (to-reversed (reverse xs) m h)

not-below : (m n : ℤ) → m ≤ℤ n → n <ℤ m → ⊥
not-below m n h l = omega (arith, ints)

above-in : (d : List Span) (n : ℤ) (k : ℕ) (found : Option ℤ) → IsDomain d → IsNextAbove d n found → slice_get (values_of d) k ≡ Some n → found ≡ slice_get (values_of d) (k + 1)
above-in d n k found is next here = next-in IsBelow (values_of d) n k found below-strict (values_ascend d is) (listed found next) here
  where
    listed : (o : Option ℤ) → IsNextAbove d n o → IsNext IsBelow (values_of d) n o
    listed None h = λ m has l. not-below m n (h m ((values_lie_in_spans d is m).1 has)) l
    listed (Some v) h = ((values_lie_in_spans d is v).0 h.0, h.1, λ m has l less. not-below v m (h.2 m ((values_lie_in_spans d is m).1 has) l) less)

below-in : (d : List Span) (n : ℤ) (k : ℕ) (found : Option ℤ) → IsDomain d → IsNextBelow d n found → slice_get (reverse (values_of d)) k ≡ Some n → found ≡ slice_get (reverse (values_of d)) (k + 1)
below-in d n k found is next here = next-in IsAbove (reverse (values_of d)) n k found above-strict (reversed-pairs (values_of d) (values_ascend d is)) (listed found next) here
  where
    listed : (o : Option ℤ) → IsNextBelow d n o → IsNext IsAbove (reverse (values_of d)) n o
    listed None h = λ m has l. not-below n m (h m ((values_lie_in_spans d is m).1 (from-reversed (values_of d) m has))) l
    listed (Some v) h = (to-reversed (values_of d) v ((values_lie_in_spans d is v).0 h.0), h.1, λ m has l less. not-below m v (h.2 m ((values_lie_in_spans d is m).1 (from-reversed (values_of d) m has)) l) less)

-- ---- alternatives

value-there : (o : Option ℤ) (n : ℤ) → option_map is_value o ≡ Some (is_value n) → o ≡ Some n
value-there None n e = cc
value-there (Some m) n e = cc

no-value : (o : Option ℤ) (a : Alternative) → ((m : ℤ) → is_value m ≡ a → ⊥) → option_map is_value o ≡ Some a → ⊥
no-value None a other e = cc
no-value (Some m) a other e = other m cc

pub follows-up : (d : List Span) (n : ℤ) (found : Option ℤ) (told : Option Alternative) → IsDomain d → IsNextAbove d n found → told ≡ option_map is_value found → Follows (alternatives up d) (Some (is_value n)) told
follows-up d n found told is next e = λ k here.
    let there = value-there (slice_get (values_of d) k) n (sym (slice_get-map is_value (values_of d) k) ∙ here) in
    e ∙ (ap (option_map is_value) (above-in d n k found is next there) ∙ sym (slice_get-map is_value (values_of d) (k + 1)))

pub follows-down : (d : List Span) (n : ℤ) (found : Option ℤ) (told : Option Alternative) → IsDomain d → IsNextBelow d n found → told ≡ option_map is_value found → Follows (alternatives down d) (Some (is_value n)) told
follows-down d n found told is next e = λ k here.
    let there = value-there (slice_get (reverse (values_of d)) k) n (sym (slice_get-map is_value (reverse (values_of d)) k) ∙ here) in
    e ∙ (ap (option_map is_value) (below-in d n k found is next there) ∙ sym (slice_get-map is_value (reverse (values_of d)) (k + 1)))

-- no value is a half, and no half a value
pub half-of-values : (vs : List ℤ) (a : Alternative) (told : Option Alternative) → ((m : ℤ) → is_value m ≡ a → ⊥) → Follows (map is_value vs) (Some a) told
half-of-values vs a told other = λ k here. absurd (no-value (slice_get vs k) a other (sym (slice_get-map is_value vs k) ∙ here))

pub at-most-no-value : (m n : ℤ) → is_value m ≡ at_most n → ⊥
at-most-no-value m n e = cc

pub above-no-value : (m n : ℤ) → is_value m ≡ above n → ⊥
above-no-value m n e = cc

pub behind-lower : (m n : ℤ) (told : Option Alternative) → told ≡ Some (above n) → Follows (at_most m ∷ above m ∷ []) (Some (at_most n)) told
behind-lower m n told e zero here = let same : m ≡ n = cc in e ∙ ap (λ x. Some (above x)) (sym same)
behind-lower m n told e (suc zero) here = absurd cc
behind-lower m n told e (suc (suc k)) here = absurd cc

pub last-lower : (m n : ℤ) → Follows (above m ∷ at_most m ∷ []) (Some (at_most n)) None
last-lower m n zero here = absurd cc
last-lower m n (suc zero) here = refl
last-lower m n (suc (suc k)) here = absurd cc

pub behind-upper : (m n : ℤ) (told : Option Alternative) → told ≡ Some (at_most n) → Follows (above m ∷ at_most m ∷ []) (Some (above n)) told
behind-upper m n told e zero here = let same : m ≡ n = cc in e ∙ ap (λ x. Some (at_most x)) (sym same)
behind-upper m n told e (suc zero) here = absurd cc
behind-upper m n told e (suc (suc k)) here = absurd cc

pub last-upper : (m n : ℤ) → Follows (at_most m ∷ above m ∷ []) (Some (above n)) None
last-upper m n zero here = absurd cc
last-upper m n (suc zero) here = refl
last-upper m n (suc (suc k)) here = absurd cc

pub no-half : (m n : ℤ) (told : Option Alternative) → Follows (at_most m ∷ above m ∷ []) (Some (is_value n)) told
no-half m n told zero here = absurd cc
no-half m n told (suc zero) here = absurd cc
no-half m n told (suc (suc k)) here = absurd cc

pub no-half-reversed : (m n : ℤ) (told : Option Alternative) → Follows (above m ∷ at_most m ∷ []) (Some (is_value n)) told
no-half-reversed m n told zero here = absurd cc
no-half-reversed m n told (suc zero) here = absurd cc
no-half-reversed m n told (suc (suc k)) here = absurd cc

-- ---- the first alternative

pub first-up : (d : List Span) (ends : Span) → IsDomain d → AreEnds d ends → Some (is_value ends.lo) ≡ slice_get (alternatives up d) 0
first-up d ends is are =
    let least : Some (least_of d) ≡ slice_get (values_of d) 0 = first-in IsBelow (values_of d) (least_of d) below-strict (values_ascend d is) ((values_lie_in_spans d is (least_of d)).0 (least-has d is are.some))
    (λ m has l. not-below (least_of d) m (least-below d m is ((values_lie_in_spans d is m).1 has)) l) in
    ap (λ n. Some (is_value n)) are.least ∙ (ap (option_map is_value) least ∙ sym (slice_get-map is_value (values_of d) 0))

pub first-down : (d : List Span) (ends : Span) → IsDomain d → AreEnds d ends → Some (is_value ends.hi) ≡ slice_get (alternatives down d) 0
first-down d ends is are =
    let greatest : Some (greatest_of d) ≡ slice_get (reverse (values_of d)) 0 = first-in IsAbove (reverse (values_of d)) (greatest_of d) above-strict (reversed-pairs (values_of d) (values_ascend d is))
    (to-reversed (values_of d) (greatest_of d) ((values_lie_in_spans d is (greatest_of d)).0 (greatest-has d is are.some)))
    (λ m has l. not-below m (greatest_of d) (greatest-above d m is ((values_lie_in_spans d is m).1 (from-reversed (values_of d) m has))) l) in
    ap (λ n. Some (is_value n)) are.greatest ∙ (ap (option_map is_value) greatest ∙ sym (slice_get-map is_value (reverse (values_of d)) 0))

pub middle-is : (d : List Span) (ends : Span) (m : ℤ) → AreEnds d ends → m ≡ halved (ends.lo +ℤ ends.hi) → m ≡ middle d
middle-is d ends m are e = e ∙ (ap (λ n. halved (n +ℤ ends.hi)) are.least ∙ ap (λ n. halved (least_of d +ℤ n)) are.greatest)

pub half-is : (n : ℤ) → int_div_euclid n (pos 2) ≡ halved n
half-is (pos n) = refl
half-is (negsuc n) = refl

-- ---- the ends

greatest-at : (d : List Span) (s : Span) (k : ℕ) → suc k ≡ length d → slice_get d k ≡ Some s → s.hi ≡ greatest_of d
unfolding greatest_of
greatest-at [] s k n e = cc
greatest-at (x ∷ []) s zero n e = let same : x ≡ s = cc in ap (λ (y : Span). y.hi) (sym same)
greatest-at (x ∷ []) s (suc k) n e = cc
greatest-at (x ∷ y ∷ ss) s zero n e = absurd (omega arith)
greatest-at (x ∷ y ∷ ss) s (suc k) n e = greatest-at (y ∷ ss) s k (omega arith) e

least-at : (d : List Span) (s : Span) → slice_get d 0 ≡ Some s → s.lo ≡ least_of d
least-at [] s e = cc
least-at (x ∷ ss) s e = let same : x ≡ s = cc in ap (λ (y : Span). y.lo) (sym same)

there : (d : List Span) (s : Span) → slice_get d 0 ≡ Some s → d ≢ []
there [] s e = λ none. cc
there (x ∷ ss) s e = λ none. cc

pub nothing-there : (d : List Span) → slice_get d 0 ≡ None → d ≡ []
nothing-there [] e = refl
nothing-there (x ∷ ss) e = cc

pub are-ends : (d : List Span) (a b : Span) (lo hi : ℤ) → IsDomain d → slice_get d 0 ≡ Some a → slice_get d (length d - 1) ≡ Some b → (IsWithinBounds a.lo → lo ≡ a.lo) → (IsWithinBounds b.hi → hi ≡ b.hi) → AreEnds d (record { lo = lo; hi = hi })
are-ends d a b lo hi is first last low-is high-is =
    let some : d ≢ [] = there d a first in
    let low : 0 < length d = slice_get_within d 0 a first in
    let least : a.lo ≡ least_of d = least-at d a first in
    let greatest : b.hi ≡ greatest_of d = greatest-at d b (length d - 1) (omega arith) last in
    let low-within : IsWithinBounds a.lo = subst IsWithinBounds (sym least) (values_are_within_bounds d (least_of d) is (least-has d is some)) in
    let high-within : IsWithinBounds b.hi = subst IsWithinBounds (sym greatest) (values_are_within_bounds d (greatest_of d) is (greatest-has d is some)) in
    record {
      some = some;
      least = low-is low-within ∙ least;
      greatest = high-is high-within ∙ greatest;
      low = subst IsWithinBounds (sym (low-is low-within)) low-within;
      high = subst IsWithinBounds (sym (high-is high-within)) high-within;
    }

-- ---- by the code's word

pub first-by_up : (w : ValueWord) (n : ℤ) (d : List Span) (ends : Span) → w ≡ ValueWord.Up → n ≡ ends.lo → IsDomain d → AreEnds d ends → Some (is_value n) ≡ slice_get (alternatives (value_word w) d) 0
first-by_up w n d ends e low is are = ap (λ m. Some (is_value m)) low ∙ (first-up d ends is are ∙ ap (λ x. slice_get (alternatives (value_word x) d) 0) (sym e))

pub first-by_down : (w : ValueWord) (n : ℤ) (d : List Span) (ends : Span) → w ≡ ValueWord.Down → n ≡ ends.hi → IsDomain d → AreEnds d ends → Some (is_value n) ≡ slice_get (alternatives (value_word w) d) 0
first-by_down w n d ends e high is are = ap (λ m. Some (is_value m)) high ∙ (first-down d ends is are ∙ ap (λ x. slice_get (alternatives (value_word x) d) 0) (sym e))

pub by-up : (w : ValueWord) (d : List Span) (n : ℤ) (found : Option ℤ) (told : Option Alternative) → w ≡ ValueWord.Up → IsDomain d → IsNextAbove d n found → told ≡ option_map is_value found → Follows (alternatives (value_word w) d) (Some (is_value n)) told
by-up w d n found told e is next t = subst (λ x. Follows (alternatives (value_word x) d) (Some (is_value n)) told) (sym e) (follows-up d n found told is next t)

pub by-down : (w : ValueWord) (d : List Span) (n : ℤ) (found : Option ℤ) (told : Option Alternative) → w ≡ ValueWord.Down → IsDomain d → IsNextBelow d n found → told ≡ option_map is_value found → Follows (alternatives (value_word w) d) (Some (is_value n)) told
by-down w d n found told e is next t = subst (λ x. Follows (alternatives (value_word x) d) (Some (is_value n)) told) (sym e) (follows-down d n found told is next t)

pub half-up : (w : ValueWord) (d : List Span) (a : Alternative) → w ≡ ValueWord.Up → ((m : ℤ) → is_value m ≡ a → ⊥) → Follows (alternatives (value_word w) d) (Some a) None
half-up w d a e other = subst (λ x. Follows (alternatives (value_word x) d) (Some a) None) (sym e) (half-of-values (values_of d) a None other)

pub half-down : (w : ValueWord) (d : List Span) (a : Alternative) → w ≡ ValueWord.Down → ((m : ℤ) → is_value m ≡ a → ⊥) → Follows (alternatives (value_word w) d) (Some a) None
half-down w d a e other = subst (λ x. Follows (alternatives (value_word x) d) (Some a) None) (sym e) (half-of-values (reverse (values_of d)) a None other)
