-- A domain and its values.
use Rattle.std.specs.Prelude.{◌≡◌, ℕ, zero, suc, ◌<◌, Bool, true, false, ◌||◌, IsTrue, List, [], ◌∷◌, ◌++◌, length, ℤ, pos, negsuc, ◌+ℤ◌, neg_ℤ, ◌≤ℤ◌, ◌<ℤ◌, refl, All, AllPairs, Contains}
use Rattle.std.specs.Int.{int_gap}
use Rattle.std.proofs.Common.{arith, sym, ◌∙◌, ap, get_or, inl, inr}
use Rattle.std.proofs.lemmas.Bool.{cases_Bool}
use Rattle.std.proofs.lemmas.Int.{ints, by_lt_z}
use Rattle.std.proofs.lemmas.List.Elements.{All-cons, All-nil, Contains-append_left, Contains-append_right, Contains-append_cases}
use Rattle.std.proofs.lemmas.List.Kept.{AllPairs-cons}
use Rattle.pi_constraints.specs.declared.domain.TheConstants.{MAX_VALUE}
use Rattle.pi_constraints.specs.declared.domain.Span.{Span}
use Rattle.pi_constraints.specs.Domain.{AscendFrom, span_has, has_value, numbers_from, values_of, ValuesLieInSpans, ValuesAscend, ValuesAreWithinBounds, SameValuesSameDomain, FirstSpanHasLeast, LastSpanHasGreatest}
use Rattle.pi_constraints.proofs.SpanLemmas.{has_value-below, has_value-above, has_value-past, has_value-append, AscendFrom-first, AscendFrom-last}

pub not_both : (b : Bool) → IsTrue b → b ≡ false → ⊥
not_both true t f = cc
not_both false t f = cc

-- ---- the least and the greatest value

pub has_value-from : (least : ℤ) (ss : List Span) (n : ℤ) → AscendFrom least ss → IsTrue (has_value ss n) → least ≤ℤ n
has_value-from least ss n up h = by_lt_z n least (λ b. absurd (not_both _ h (has_value-below least ss n up b))) (λ b. b)

pub values_are_within_bounds : ValuesAreWithinBounds
values_are_within_bounds ss n up h = (
  has_value-from (neg_ℤ MAX_VALUE) ss n up h,
  by_lt_z MAX_VALUE n (λ b. absurd (not_both _ h (has_value-above (neg_ℤ MAX_VALUE) ss n up b))) (λ b. b),
)

-- the start of the first span is a value
first_is_value : (least : ℤ) (s : Span) (ss : List Span) → AscendFrom least (s ∷ ss) → IsTrue (has_value (s ∷ ss) s.lo)
unfolding AscendFrom has_value
first_is_value least s ss up = grind (arith, ints)

-- and no value is below it
none_below_first : (least : ℤ) (s : Span) (ss : List Span) (n : ℤ) → AscendFrom least (s ∷ ss) → IsTrue (has_value (s ∷ ss) n) → s.lo ≤ℤ n
unfolding AscendFrom
none_below_first least s ss n up h = has_value-from s.lo (s ∷ ss) n (omega (arith, ints), up.1, up.2, up.3) h

pub IsLeastValue-first : FirstSpanHasLeast
IsLeastValue-first s ss up = record {
  is_value = first_is_value (neg_ℤ MAX_VALUE) s ss up;
  none_below = λ m h. none_below_first (neg_ℤ MAX_VALUE) s ss m up h;
}

pub IsGreatestValue-last : LastSpanHasGreatest
unfolding AscendFrom has_value
IsGreatestValue-last ss s up =
    let tail = AscendFrom-last (neg_ℤ MAX_VALUE) ss (s ∷ []) up in
    let joined : (n : ℤ) → has_value (ss ++ s ∷ []) n ≡ (has_value ss n || has_value (s ∷ []) n) = has_value-append ss (s ∷ []) in
    record {
      is_value = rw (joined s.hi) (grind (arith, ints, tail));
      none_above = λ m h. by_lt_z s.hi m (λ b.
          let before : has_value ss m ≡ false = has_value-past (neg_ℤ MAX_VALUE) ss m (AscendFrom-first (neg_ℤ MAX_VALUE) ss (s ∷ []) up) (omega (arith, ints, tail)) in
          let here : has_value (s ∷ []) m ≡ false = grind (arith, ints) in
          absurd (not_both _ h (joined m ∙ grind (arith, before, here)))) (λ b. b);
    }

-- ---- the list of values

pub gap_is : (lo hi : ℤ) → lo ≤ℤ hi → lo +ℤ pos (int_gap lo hi) ≡ hi
gap_is (pos a) (pos b) h = omega (arith, ints)
gap_is (pos a) (negsuc b) h = omega (arith, ints)
gap_is (negsuc a) (pos b) h = omega (arith, ints)
gap_is (negsuc a) (negsuc b) h = omega (arith, ints)

pub length-numbers_from : (n : ℤ) (count : ℕ) → length (numbers_from n count) ≡ count
unfolding numbers_from
length-numbers_from n zero = refl
length-numbers_from n (suc count) = ap suc (length-numbers_from (n +ℤ pos 1) count)

numbers_from-at : (n : ℤ) (count k : ℕ) (d : ℤ) → k < count → get_or (numbers_from n count) k d ≡ n +ℤ pos k
unfolding numbers_from
numbers_from-at n zero k d h = absurd (omega arith)
numbers_from-at n (suc count) zero d h = omega (arith, ints)
numbers_from-at n (suc count) (suc k) d h = numbers_from-at (n +ℤ pos 1) count k d (omega arith) ∙ omega (arith, ints)

-- the numbers of a span are those that lie in it
in_span : (s : Span) (n : ℤ) → s.lo ≤ℤ s.hi → IsTrue (span_has s n) → Contains (numbers_from s.lo (suc (int_gap s.lo s.hi))) n
in_span s n o h =
    let low : s.lo ≤ℤ n = grind (arith, ints) in
    let high : n ≤ℤ s.hi = grind (arith, ints) in
    let whole = gap_is s.lo s.hi o in
    let part = gap_is s.lo n low in
    let within : int_gap s.lo n < suc (int_gap s.lo s.hi) = omega (arith, ints) in
    let size = length-numbers_from s.lo (suc (int_gap s.lo s.hi)) in
    (int_gap s.lo n, omega arith, numbers_from-at s.lo (suc (int_gap s.lo s.hi)) (int_gap s.lo n) n within ∙ part)

from_span : (s : Span) (n : ℤ) → s.lo ≤ℤ s.hi → Contains (numbers_from s.lo (suc (int_gap s.lo s.hi))) n → IsTrue (span_has s n)
from_span s n o (k, within, e) =
    let whole = gap_is s.lo s.hi o in
    let size = length-numbers_from s.lo (suc (int_gap s.lo s.hi)) in
    let below : k < suc (int_gap s.lo s.hi) = omega arith in
    let is : s.lo +ℤ pos k ≡ n = sym (numbers_from-at s.lo (suc (int_gap s.lo s.hi)) k n below) ∙ e in
    let low : s.lo ≤ℤ n = omega (arith, ints) in
    let high : n ≤ℤ s.hi = omega (arith, ints) in
    grind (arith, ints)

or_else : (b c : Bool) → IsTrue (b || c) → b ≡ false → IsTrue c
or_else true c h e = absurd cc
or_else false c h e = h

or_left : (b c : Bool) → IsTrue b → IsTrue (b || c)
or_left true c h = refl
or_left false c h = absurd cc

or_right : (b c : Bool) → IsTrue c → IsTrue (b || c)
or_right true c h = refl
or_right false c h = h

in_values : (least : ℤ) (ss : List Span) (n : ℤ) → AscendFrom least ss → IsTrue (has_value ss n) → Contains (values_of ss) n
unfolding AscendFrom has_value values_of
in_values least [] n up h = absurd cc
in_values least (s ∷ ss) n up h = elim (cases_Bool (span_has s n)) [
  | inl hit ↦ Contains-append_left (numbers_from s.lo (suc (int_gap s.lo s.hi))) (values_of ss) n (in_span s n up.1 hit)
  | inr miss ↦
      Contains-append_right (numbers_from s.lo (suc (int_gap s.lo s.hi))) (values_of ss) n
      (in_values (s.hi +ℤ pos 2) ss n up.3 (or_else (span_has s n) (has_value ss n) h miss))
]

from_values : (least : ℤ) (ss : List Span) (n : ℤ) → AscendFrom least ss → Contains (values_of ss) n → IsTrue (has_value ss n)
unfolding AscendFrom has_value values_of
from_values least [] n up (k, within, e) = absurd (omega arith)
from_values least (s ∷ ss) n up h = elim (Contains-append_cases (numbers_from s.lo (suc (int_gap s.lo s.hi))) (values_of ss) n h) [
  | inl here ↦ or_left (span_has s n) (has_value ss n) (from_span s n up.1 here)
  | inr later ↦ or_right (span_has s n) (has_value ss n) (from_values (s.hi +ℤ pos 2) ss n up.3 later)
]

pub values_lie_in_spans : ValuesLieInSpans
values_lie_in_spans ss up n = (in_values (neg_ℤ MAX_VALUE) ss n up, from_values (neg_ℤ MAX_VALUE) ss n up)

-- ---- the list ascends

-- numbers that rise from a number on
abbrev Rise : ℤ → List ℤ → Type 0
Rise least [] = Unit {0}
Rise least (n ∷ ns) = (least ≤ℤ n) × Rise (n +ℤ pos 1) ns

rise_lower : (low least : ℤ) (ns : List ℤ) → low ≤ℤ least → Rise least ns → Rise low ns
rise_lower low least [] h up = tt
rise_lower low least (n ∷ ns) h up = (omega (arith, ints, up.0), up.1)

rise_numbers : (n : ℤ) (count : ℕ) (ns : List ℤ) → Rise (n +ℤ pos count) ns → Rise n (numbers_from n count ++ ns)
unfolding numbers_from
rise_numbers n zero ns up = rise_lower n (n +ℤ pos 0) ns (omega (arith, ints)) up
rise_numbers n (suc count) ns up = (omega (arith, ints), rise_numbers (n +ℤ pos 1) count ns (rise_lower ((n +ℤ pos 1) +ℤ pos count) (n +ℤ pos (suc count)) ns (omega (arith, ints)) up))

rise_values : (least : ℤ) (ss : List Span) → AscendFrom least ss → Rise least (values_of ss)
unfolding AscendFrom values_of
rise_values least [] up = tt
rise_values least (s ∷ ss) up =
    let count : ℕ = suc (int_gap s.lo s.hi) in
    let whole = gap_is s.lo s.hi up.1 in
    let rest = rise_lower (s.lo +ℤ pos count) (s.hi +ℤ pos 2) (values_of ss) (omega (arith, ints)) (rise_values (s.hi +ℤ pos 2) ss up.3) in
    rise_lower least s.lo (numbers_from s.lo count ++ values_of ss) up.0 (rise_numbers s.lo count (values_of ss) rest)

rise_all : (least low : ℤ) (ns : List ℤ) → low <ℤ least → Rise least ns → All (λ n. low <ℤ n) ns
rise_all least low [] h up = All-nil (λ n. low <ℤ n)
rise_all least low (n ∷ ns) h up = All-cons (λ m. low <ℤ m) n ns (omega (arith, ints, up.0)) (rise_all (n +ℤ pos 1) low ns (omega (arith, ints, up.0)) up.1)

rise_pairs : (least : ℤ) (ns : List ℤ) → Rise least ns → AllPairs (λ m n. m <ℤ n) ns
rise_pairs least [] up = λ i j d below within. absurd (omega arith)
rise_pairs least (n ∷ ns) up = AllPairs-cons (λ m k. m <ℤ k) n ns (rise_all (n +ℤ pos 1) n ns (omega (arith, ints)) up.1) (rise_pairs (n +ℤ pos 1) ns up.1)

pub values_ascend : ValuesAscend
values_ascend ss up = rise_pairs (neg_ℤ MAX_VALUE) (values_of ss) (rise_values (neg_ℤ MAX_VALUE) ss up)

-- ---- the same values make the same spans

abbrev SameValues : List Span → List Span → Type 0
SameValues ss ts = (n : ℤ) → has_value ss n ≡ has_value ts n

starts : (least other : ℤ) (s t : Span) (ss ts : List Span) → AscendFrom least (s ∷ ss) → AscendFrom other (t ∷ ts) → SameValues (s ∷ ss) (t ∷ ts) → t.lo ≤ℤ s.lo
starts least other s t ss ts up vp same = none_below_first other t ts s.lo vp (sym (same s.lo) ∙ first_is_value least s ss up)

-- the number behind a span is no value
behind_first : (least : ℤ) (s : Span) (ss : List Span) → AscendFrom least (s ∷ ss) → has_value (s ∷ ss) (s.hi +ℤ pos 1) ≡ false
unfolding AscendFrom has_value
behind_first least s ss up =
    let rest : has_value ss (s.hi +ℤ pos 1) ≡ false = has_value-below (s.hi +ℤ pos 2) ss (s.hi +ℤ pos 1) up.3 (omega (arith, ints)) in
    let outside : span_has s (s.hi +ℤ pos 1) ≡ false = grind (arith, ints) in
    grind (arith, outside, rest)

in_first : (s : Span) (ss : List Span) (n : ℤ) → s.lo ≤ℤ n → n ≤ℤ s.hi → IsTrue (has_value (s ∷ ss) n)
unfolding has_value
in_first s ss n low high = or_left (span_has s n) (has_value ss n) (grind (arith, ints))

ends : (least : ℤ) (s t : Span) (ss ts : List Span) → AscendFrom least (s ∷ ss) → SameValues (s ∷ ss) (t ∷ ts) → t.lo ≤ℤ s.lo → s.lo ≤ℤ s.hi → t.hi ≤ℤ s.hi
ends least s t ss ts up same low o = by_lt_z s.hi t.hi
    (λ b. absurd (not_both _ (in_first t ts (s.hi +ℤ pos 1) (omega (arith, ints)) (omega (arith, ints))) (sym (same (s.hi +ℤ pos 1)) ∙ behind_first least s ss up)))
    (λ b. b)

abbrev span_from : ℤ → ℤ → Span
span_from lo hi = record { lo = lo; hi = hi }

same_span : (s t : Span) → s.lo ≡ t.lo → s.hi ≡ t.hi → s ≡ t
same_span s t l h = ap (λ (x : ℤ). span_from x s.hi) l ∙ ap (λ (x : ℤ). span_from t.lo x) h

or_outside : (p q a b : Bool) → (p || a) ≡ (q || b) → p ≡ false → q ≡ false → a ≡ b
or_outside p q a b h e f = grind (arith, e, f)

rests : (least other : ℤ) (s t : Span) (ss ts : List Span) → AscendFrom least (s ∷ ss) → AscendFrom other (t ∷ ts) → s.hi ≡ t.hi → SameValues (s ∷ ss) (t ∷ ts) → SameValues ss ts
unfolding AscendFrom has_value
rests least other s t ss ts up vp h same n = by_lt_z n (s.hi +ℤ pos 2)
    (λ b. has_value-below (s.hi +ℤ pos 2) ss n up.3 b ∙ sym (has_value-below (t.hi +ℤ pos 2) ts n vp.3 (omega (arith, ints))))
    (λ b. or_outside (span_has s n) (span_has t n) (has_value ss n) (has_value ts n) (same n) (grind (arith, ints)) (grind (arith, ints)))

same_spans : (least other : ℤ) (ss ts : List Span) → AscendFrom least ss → AscendFrom other ts → SameValues ss ts → ss ≡ ts
unfolding AscendFrom has_value
same_spans least other [] [] up vp same = refl
same_spans least other [] (t ∷ ts) up vp same = absurd (not_both _ (first_is_value other t ts vp) (sym (same t.lo)))
same_spans least other (s ∷ ss) [] up vp same = absurd (not_both _ (first_is_value least s ss up) (same s.lo))
same_spans least other (s ∷ ss) (t ∷ ts) up vp same =
    let back : SameValues (t ∷ ts) (s ∷ ss) = λ n. sym (same n) in
    let low = starts least other s t ss ts up vp same in
    let high = starts other least t s ts ss vp up back in
    let up_to = ends least s t ss ts up same low up.1 in
    let down_to = ends other t s ts ss vp back high vp.1 in
    let end : s.hi ≡ t.hi = omega (arith, ints) in
    let head : s ≡ t = same_span s t (omega (arith, ints)) end in
    let tail : ss ≡ ts = same_spans (s.hi +ℤ pos 2) (t.hi +ℤ pos 2) ss ts up.3 vp.3 (rests least other s t ss ts up vp end same) in
    cc

pub same_values_same_domain : SameValuesSameDomain
same_values_same_domain ss ts up vp same = same_spans (neg_ℤ MAX_VALUE) (neg_ℤ MAX_VALUE) ss ts up vp same
