-- Spans that are cut at their ends where they stand.
use Rattle.std.specs.Prelude.{◌≡◌, ℕ, zero, suc, ◌+◌, ◌-◌, ◌<◌, ◌≤◌, Bool, true, false, ◌&&◌, ◌||◌, List, [], ◌∷◌, ◌++◌, length, take, drop, get_or, slice_set, ℤ, pos, ◌+ℤ◌, neg_ℤ, ◌≤ℤ◌, ◌<ℤ◌, int_le, refl}
use Rattle.std.proofs.Common.{arith, sym, ◌∙◌, ap, subst}
use Rattle.std.proofs.lemmas.Int.{ints, by_lt_z}
use Rattle.std.proofs.lemmas.List.{take_more, drop_more, length-append, length-drop, length-take-le, take-append-drop}
use Rattle.std.proofs.Math.Seq.{take-append_seam}
use Rattle.pi_constraints.specs.declared.domain.TheConstants.{MAX_VALUE}
use Rattle.pi_constraints.specs.declared.domain.Span.{Span}
use Rattle.pi_constraints.specs.Domain.{AscendFrom, IsDomain, span_has, has_value}
use Rattle.pi_constraints.proofs.SpanLemmas.{AscendFrom-first, has_value-below, has_value-append}

-- a span from one number to another
abbrev pub from_to : ℤ → ℤ → Span
from_to lo hi = record { lo = lo; hi = hi }

-- ---- at the front

-- spans have the values from n on that those had of which they are the rest
abbrev pub SameFrom : ℤ → List Span → List Span → Type 0
SameFrom n new old = (m : ℤ) → n ≤ℤ m → has_value new m ≡ has_value old m

or_false : (b c : Bool) → b ≡ false → c ≡ (b || c)
or_false true c e = absurd (cc)
or_false false c e = refl

-- one more span that ends below n is left out
pub SameFrom-more : (ss : List Span) (k : ℕ) (s : Span) (n : ℤ) → k < length ss → (get_or ss k s).hi <ℤ n → SameFrom n (drop k ss) ss → SameFrom n (drop (k + 1) ss) ss
unfolding has_value
SameFrom-more ss k s n l h same m o =
    let split : drop k ss ≡ get_or ss k s ∷ drop (k + 1) ss = drop_more ss k s l in
    let outside : span_has (get_or ss k s) m ≡ false = grind (arith, ints) in
    or_false (span_has (get_or ss k s) m) (has_value (drop (k + 1) ss) m) outside ∙ (ap (λ (x : List Span). has_value x m) (sym split) ∙ same m o)

and_true : (b c : Bool) → (b ≡ true → c ≡ true) → b ≡ (b && c)
and_true true c h = sym (h refl)
and_true false c h = refl

-- where nothing begins below n, all values are from n on
none_raised : (least n : ℤ) (ss : List Span) → AscendFrom least ss → n ≤ℤ least → (m : ℤ) → has_value ss m ≡ (has_value ss m && int_le n m)
none_raised least n ss up h m = by_lt_z m n
    (λ b. let none : has_value ss m ≡ false = has_value-below least ss m up (omega (arith, ints)) in none ∙ sym (ap (λ (x : Bool). x && int_le n m) none))
    (λ b. and_true (has_value ss m) (int_le n m) (λ t. grind (arith, ints)))

raised_domain : (least n : ℤ) (s : Span) (ss : List Span) → AscendFrom least (s ∷ ss) → s.lo ≤ℤ n → n ≤ℤ s.hi → AscendFrom least (from_to n s.hi ∷ ss)
unfolding AscendFrom
raised_domain least n s ss up l h = (omega (arith, ints, up.0), h, up.2, up.3)

raised_values : (least n : ℤ) (s : Span) (ss : List Span) → AscendFrom least (s ∷ ss) → s.lo ≤ℤ n → n ≤ℤ s.hi → (m : ℤ) → has_value (from_to n s.hi ∷ ss) m ≡ (has_value (s ∷ ss) m && int_le n m)
unfolding AscendFrom has_value
raised_values least n s ss up l h m =
    let rest : has_value ss m ≡ (has_value ss m && int_le n m) = none_raised (s.hi +ℤ pos 2) n ss up.3 (omega (arith, ints)) m in
    grind (arith, ints, rest)

-- ---- at the end

abbrev pub SameUpTo : ℤ → List Span → List Span → Type 0
SameUpTo n new old = (m : ℤ) → m ≤ℤ n → has_value new m ≡ has_value old m

or_nothing : (b c : Bool) → c ≡ false → b ≡ (b || c)
or_nothing true c e = refl
or_nothing false c e = sym e

one_has : (s : Span) (m : ℤ) → span_has s m ≡ false → has_value (s ∷ []) m ≡ false
unfolding has_value
one_has s m e = ap (λ (b : Bool). b || false) e

-- one more span that begins above n is left out
pub SameUpTo-less : (ss : List Span) (k : ℕ) (s : Span) (n : ℤ) → k < length ss → n <ℤ (get_or ss k s).lo → SameUpTo n (take (k + 1) ss) ss → SameUpTo n (take k ss) ss
SameUpTo-less ss k s n l h same m o =
    let split : take (k + 1) ss ≡ take k ss ++ get_or ss k s ∷ [] = take_more ss k s l in
    let outside : span_has (get_or ss k s) m ≡ false = grind (arith, ints) in
    or_nothing (has_value (take k ss) m) (has_value (get_or ss k s ∷ []) m) (one_has (get_or ss k s) m outside)
    ∙ (sym (has_value-append (take k ss) (get_or ss k s ∷ []) m) ∙ (ap (λ (x : List Span). has_value x m) (sym split) ∙ same m o))

pub least_below : (least : ℤ) (ss : List Span) (k : ℕ) (e : Span) (n : ℤ) → AscendFrom least ss → k < length ss → (get_or ss k e).lo ≤ℤ n → least ≤ℤ n
unfolding AscendFrom
least_below least [] k e n up l h = absurd (omega arith)
least_below least (s ∷ ss) zero e n up l h = omega (arith, ints, up.0)
least_below least (s ∷ ss) (suc k) e n up l h = let rest : (s.hi +ℤ pos 2) ≤ℤ n = least_below (s.hi +ℤ pos 2) ss k e n up.3 (omega arith) h in omega (arith, ints, up.0, up.1)

-- the last span ends at n
lowered_domain : (least n : ℤ) (ss : List Span) (k : ℕ) (e : Span) → AscendFrom least ss → k + 1 ≡ length ss → (get_or ss k e).lo ≤ℤ n → n ≤ℤ (get_or ss k e).hi → AscendFrom least (slice_set ss k (from_to (get_or ss k e).lo n))
unfolding AscendFrom
lowered_domain least n [] k e up c l h = absurd (omega arith)
lowered_domain least n (s ∷ []) zero e up c l h = (up.0, l, omega (arith, ints, up.2), tt)
lowered_domain least n (s ∷ t ∷ ss) zero e up c l h = absurd (omega arith)
lowered_domain least n (s ∷ ss) (suc k) e up c l h = (up.0, up.1, up.2, lowered_domain (s.hi +ℤ pos 2) n ss k e up.3 (omega arith) l h)

lowered_values : (least n : ℤ) (ss : List Span) (k : ℕ) (e : Span) → AscendFrom least ss → k + 1 ≡ length ss → (get_or ss k e).lo ≤ℤ n → n ≤ℤ (get_or ss k e).hi
    → (m : ℤ) → has_value (slice_set ss k (from_to (get_or ss k e).lo n)) m ≡ (has_value ss m && int_le m n)
unfolding AscendFrom has_value
lowered_values least n [] k e up c l h m = absurd (omega arith)
lowered_values least n (s ∷ []) zero e up c l h m = grind (arith, ints)
lowered_values least n (s ∷ t ∷ ss) zero e up c l h m = absurd (omega arith)
lowered_values least n (s ∷ ss) (suc k) e up c l h m =
    let rest = lowered_values (s.hi +ℤ pos 2) n ss k e up.3 (omega arith) l h m in
    let low : (s.hi +ℤ pos 2) ≤ℤ n = least_below (s.hi +ℤ pos 2) ss k e n up.3 (omega arith) l in
    grind (arith, ints, rest)

least_end : (least : ℤ) (ss : List Span) (k : ℕ) (e : Span) (n : ℤ) → AscendFrom least ss → k < length ss → (get_or ss k e).hi ≤ℤ n → least ≤ℤ n
unfolding AscendFrom
least_end least [] k e n up l h = absurd (omega arith)
least_end least (s ∷ ss) zero e n up l h = omega (arith, ints, up.0, up.1)
least_end least (s ∷ ss) (suc k) e n up l h = let rest : (s.hi +ℤ pos 2) ≤ℤ n = least_end (s.hi +ℤ pos 2) ss k e n up.3 (omega arith) h in omega (arith, ints, up.0, up.1)

-- where the last span ends at n or below it, all values do
none_lowered : (least n : ℤ) (ss : List Span) (k : ℕ) (e : Span) → AscendFrom least ss → k + 1 ≡ length ss → (get_or ss k e).hi ≤ℤ n → (m : ℤ) → has_value ss m ≡ (has_value ss m && int_le m n)
unfolding AscendFrom has_value
none_lowered least n [] k e up c h m = absurd (omega arith)
none_lowered least n (s ∷ []) zero e up c h m = grind (arith, ints)
none_lowered least n (s ∷ t ∷ ss) zero e up c h m = absurd (omega arith)
none_lowered least n (s ∷ ss) (suc k) e up c h m =
    let rest = none_lowered (s.hi +ℤ pos 2) n ss k e up.3 (omega arith) h m in
    let low : (s.hi +ℤ pos 2) ≤ℤ n = least_end (s.hi +ℤ pos 2) ss k e n up.3 (omega arith) h in
    grind (arith, ints, rest)

-- ---- as the code has it

pub none_there : (ss : List Span) (test : ℤ → Bool) → length ss ≡ 0 → (m : ℤ) → has_value ss m ≡ (has_value ss m && test m)
unfolding has_value
none_there [] test e m = refl
none_there (s ∷ ss) test e m = absurd (omega arith)

set_first : (least : ℤ) (ss : List Span) (e : Span) (n : ℤ) → AscendFrom least ss → 0 < length ss → e ≡ get_or ss 0 e → e.lo ≤ℤ n → n ≤ℤ e.hi → AscendFrom least (slice_set ss 0 (from_to n e.hi)) × ((m : ℤ) → has_value (slice_set ss 0 (from_to n e.hi)) m ≡ (has_value ss m && int_le n m))
set_first least [] e n up l at low high = absurd (omega arith)
set_first least (s ∷ ss) e n up l at low high =
    let q : s.lo ≤ℤ n = subst (λ (x : Span). x.lo ≤ℤ n) at low in
    let r : n ≤ℤ s.hi = subst (λ (x : Span). n ≤ℤ x.hi) at high in
    subst (λ (x : Span). AscendFrom least (from_to n x.hi ∷ ss) × ((m : ℤ) → has_value (from_to n x.hi ∷ ss) m ≡ (has_value (s ∷ ss) m && int_le n m))) (sym at) (raised_domain least n s ss up q r, raised_values least n s ss up q r)

same_span : (lo hi low high : ℤ) → low ≡ lo → high ≡ hi → from_to low high ≡ from_to lo hi
same_span lo hi low high l h = ap (λ (x : ℤ). from_to x high) l ∙ ap (λ (x : ℤ). from_to lo x) h

pub raised_is : (ss : List Span) (e : Span) (n low high : ℤ) → IsDomain ss → 0 < length ss → e ≡ get_or ss 0 e → e.lo ≤ℤ n → n ≤ℤ e.hi → low ≡ n → high ≡ e.hi → IsDomain (slice_set ss 0 (from_to low high))
raised_is ss e n low high up l at q r lo hi = subst (λ (x : Span). IsDomain (slice_set ss 0 x)) (sym (same_span n e.hi low high lo hi)) (set_first (neg_ℤ MAX_VALUE) ss e n up l at q r).0

pub raised_has : (ss : List Span) (e : Span) (n low high : ℤ) → IsDomain ss → 0 < length ss → e ≡ get_or ss 0 e → e.lo ≤ℤ n → n ≤ℤ e.hi → low ≡ n → high ≡ e.hi → (m : ℤ) → has_value (slice_set ss 0 (from_to low high)) m ≡ (has_value ss m && int_le n m)
raised_has ss e n low high up l at q r lo hi m = ap (λ (x : Span). has_value (slice_set ss 0 x) m) (same_span n e.hi low high lo hi) ∙ (set_first (neg_ℤ MAX_VALUE) ss e n up l at q r).1 m

-- where the first span begins at n or above it, all values are from n on
pub raised_none : (ss : List Span) (e : Span) (n : ℤ) → IsDomain ss → e ≡ get_or ss 0 e → n ≤ℤ e.lo → (m : ℤ) → has_value ss m ≡ (has_value ss m && int_le n m)
unfolding AscendFrom
raised_none [] e n up at h m = none_there [] (λ k. int_le n k) refl m
raised_none (s ∷ ss) e n up at h m = none_raised s.lo n (s ∷ ss) (omega (arith, ints), up.1, up.2, up.3) (subst (λ (x : Span). n ≤ℤ x.lo) at h) m

pub lowered_is : (ss : List Span) (k : ℕ) (e : Span) (n low high : ℤ) → IsDomain ss → k + 1 ≡ length ss → e ≡ get_or ss k e → e.lo ≤ℤ n → n ≤ℤ e.hi → low ≡ e.lo → high ≡ n → IsDomain (slice_set ss k (from_to low high))
lowered_is ss k e n low high up c at q r lo hi =
    subst (λ (x : Span). IsDomain (slice_set ss k x)) (sym (same_span (get_or ss k e).lo n low high (lo ∙ ap (λ (x : Span). x.lo) at) hi))
    (lowered_domain (neg_ℤ MAX_VALUE) n ss k e up c (subst (λ (x : Span). x.lo ≤ℤ n) at q) (subst (λ (x : Span). n ≤ℤ x.hi) at r))

pub lowered_has : (ss : List Span) (k : ℕ) (e : Span) (n low high : ℤ) → IsDomain ss → k + 1 ≡ length ss → e ≡ get_or ss k e → e.lo ≤ℤ n → n ≤ℤ e.hi → low ≡ e.lo → high ≡ n
    → (m : ℤ) → has_value (slice_set ss k (from_to low high)) m ≡ (has_value ss m && int_le m n)
lowered_has ss k e n low high up c at q r lo hi m =
    ap (λ (x : Span). has_value (slice_set ss k x) m) (same_span (get_or ss k e).lo n low high (lo ∙ ap (λ (x : Span). x.lo) at) hi)
    ∙ lowered_values (neg_ℤ MAX_VALUE) n ss k e up c (subst (λ (x : Span). x.lo ≤ℤ n) at q) (subst (λ (x : Span). n ≤ℤ x.hi) at r) m

pub lowered_none : (ss : List Span) (k : ℕ) (e : Span) (n : ℤ) → IsDomain ss → k + 1 ≡ length ss → e ≡ get_or ss k e → e.hi ≤ℤ n → (m : ℤ) → has_value ss m ≡ (has_value ss m && int_le m n)
lowered_none ss k e n up c at h = none_lowered (neg_ℤ MAX_VALUE) n ss k e up c (subst (λ (x : Span). x.hi ≤ℤ n) at h)

-- what a turn to the left and a cut leave
pub turned_off : (ss turned rest left : List Span) (gone count size : ℕ) → count ≡ length ss → size ≡ length ss → gone ≤ length ss → turned ≡ drop gone ss ++ take gone ss → left ≡ take (count - gone) (take size (turned ++ rest)) → left ≡ drop gone ss
turned_off ss turned rest left gone count size c s l e f =
    let back : length (drop gone ss) ≡ length ss - gone = length-drop gone ss in
    let front : length (take gone ss) ≡ gone = length-take-le gone ss l in
    let both : length turned ≡ length (drop gone ss) + length (take gone ss) = ap (λ (x : List Span). length x) e ∙ length-append (drop gone ss) (take gone ss) in
    let all : size ≡ length turned = omega arith in
    let kept : count - gone ≡ length (drop gone ss) = omega arith in
    let whole : take size (turned ++ rest) ≡ turned = ap (λ (k : ℕ). take k (turned ++ rest)) all ∙ take-append_seam turned rest in
    f ∙ (ap (λ (x : List Span). take (count - gone) x) (whole ∙ e) ∙ (ap (λ (k : ℕ). take k (drop gone ss ++ take gone ss)) kept ∙ take-append_seam (drop gone ss) (take gone ss)))

first_left : (ss : List Span) (gone : ℕ) (e : Span) → get_or (drop gone ss) 0 e ≡ get_or ss gone e
first_left ss zero e = refl
first_left [] (suc gone) e = refl
first_left (s ∷ ss) (suc gone) e = first_left ss gone e

-- the first span that is left ends at n or above it
pub next_left : (ss left : List Span) (gone : ℕ) (n : ℤ) → left ≡ drop gone ss → ((e : Span) → gone < length ss → n ≤ℤ (get_or ss gone e).hi) → (e : Span) → 0 < length left → n ≤ℤ (get_or left 0 e).hi
next_left ss left gone n same next e some =
    let size : length left ≡ length ss - gone = ap (λ (x : List Span). length x) same ∙ length-drop gone ss in
    subst (λ (x : Span). n ≤ℤ x.hi) (sym (ap (λ (x : List Span). get_or x 0 e) same ∙ first_left ss gone e)) (next e (omega arith))

pub front_domain : (ss : List Span) (k : ℕ) → IsDomain ss → IsDomain (take k ss)
front_domain ss k up = AscendFrom-first (neg_ℤ MAX_VALUE) (take k ss) (drop k ss) (subst IsDomain (sym (take-append-drop k ss)) up)
