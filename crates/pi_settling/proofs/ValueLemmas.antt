-- Domains by their values: spans that are joined, and what lies between spans.
use Rattle.std.specs.Prelude.{◌≡◌, Bool, true, false, not, ◌&&◌, ◌||◌, cond, List, [], ◌∷◌, ◌++◌, ℤ, pos, ◌+ℤ◌, ◌-ℤ◌, neg_ℤ, ◌≤ℤ◌, ◌<ℤ◌, int_le, int_lt, refl}
use Rattle.std.specs.Int.{int_max}
use Rattle.std.specs.List.{list_any}
use Rattle.std.specs.Ordering.{int_eq}
use Rattle.std.proofs.Common.{arith, ◌∙◌, ap}
use Rattle.std.proofs.lemmas.Int.{ints, clamps}
use Rattle.pi_constraints.specs.declared.domain.Span.{Span}
use Rattle.pi_constraints.specs.declared.domain.TheConstants.{MAX_VALUE}
use Rattle.pi_constraints.specs.Domain.{AscendFrom, IsDomain, span_has, has_value}
use Rattle.pi_settling.specs.Values.{can_have, between, ahead_of, with_value, domain_of_values, gaps_from}
use Rattle.pi_settling.specs.ValueLaws.{ValuesAreADomain, ValuesAreItsOwn, AllButIsADomain, AllButHasTheOthers}

-- ---- spans that touch

-- spans from a number on ascend from each number below it
pub ascend_less : (l least : ℤ) (ss : List Span) → l ≤ℤ least → AscendFrom least ss → AscendFrom l ss
unfolding AscendFrom
ascend_less l least [] h s = tt
ascend_less l least (t ∷ ts) h s = (omega (arith, ints, s.0), s.1, s.2, s.3)

or_parts : (p q r s : Bool) → p ≡ (q || r) → (p || s) ≡ (q || (r || s))
or_parts p true r s e = (λ i. e i || s)
or_parts p false r s e = (λ i. e i || s)

joined_has : (a b c d i : ℤ) → a ≤ℤ c → c ≤ℤ (b +ℤ pos 1) → a ≤ℤ b → c ≤ℤ d → (int_le a i && int_le i (int_max b d)) ≡ ((int_le a i && int_le i b) || (int_le c i && int_le i d))
joined_has a b c d i h k m n = grind (arith, ints, clamps)

ascend-ahead : (s : Span) (least : ℤ) (ss : List Span) → s.lo ≤ℤ least → s.lo ≤ℤ s.hi → s.hi ≤ℤ MAX_VALUE → AscendFrom least ss → AscendFrom s.lo (ahead_of s ss)
unfolding AscendFrom ahead_of
ascend-ahead s least [] h k m r = (omega (arith, ints), k, m, tt)
ascend-ahead s least (t ∷ ts) h k m r = by (int_lt (s.hi +ℤ pos 1) t.lo) refl (ascend-ahead (record { lo = s.lo; hi = int_max s.hi t.hi }) (t.hi +ℤ pos 2) ts (omega (arith, ints, h, r.0, r.1)) (omega (arith, ints, clamps, k)) (omega (arith, ints, clamps, m, r.2)) r.3)
  where
    by : (b : Bool) → int_lt (s.hi +ℤ pos 1) t.lo ≡ b → AscendFrom s.lo (ahead_of (record { lo = s.lo; hi = int_max s.hi t.hi }) ts) →
        AscendFrom s.lo (cond b (s ∷ t ∷ ts) (ahead_of (record { lo = s.lo; hi = int_max s.hi t.hi }) ts))
    by true e rest = (omega (arith, ints), k, m, (grind (arith, ints, e), r.1, r.2, r.3))
    by false e rest = rest

has-ahead : (s : Span) (least i : ℤ) (ss : List Span) → s.lo ≤ℤ least → s.lo ≤ℤ s.hi → AscendFrom least ss → has_value (ahead_of s ss) i ≡ (span_has s i || has_value ss i)
unfolding AscendFrom ahead_of has_value
has-ahead s least i [] h k r = refl
has-ahead s least i (t ∷ ts) h k r =
    by (int_lt (s.hi +ℤ pos 1) t.lo) refl (has-ahead (record { lo = s.lo; hi = int_max s.hi t.hi }) (t.hi +ℤ pos 2) i ts (omega (arith, ints, h, r.0, r.1)) (omega (arith, ints, clamps, k)) r.3)
  where
    by : (b : Bool) → int_lt (s.hi +ℤ pos 1) t.lo ≡ b → has_value (ahead_of (record { lo = s.lo; hi = int_max s.hi t.hi }) ts) i ≡ (span_has (record { lo = s.lo; hi = int_max s.hi t.hi }) i || has_value ts i) →
        has_value (cond b (s ∷ t ∷ ts) (ahead_of (record { lo = s.lo; hi = int_max s.hi t.hi }) ts)) i ≡ (span_has s i || (span_has t i || has_value ts i))
    by true e rest = refl
    by false e rest =
        rest ∙ or_parts (span_has (record { lo = s.lo; hi = int_max s.hi t.hi }) i) (span_has s i) (span_has t i) (has_value ts i)
        (joined_has s.lo s.hi t.lo t.hi i (omega (arith, ints, h, r.0)) (grind (arith, ints, e)) k r.1)

-- ---- one more value

ascend-with_value : (l i : ℤ) (d : List Span) → l ≤ℤ i → i ≤ℤ MAX_VALUE → AscendFrom l d → AscendFrom l (with_value i d)
unfolding AscendFrom with_value
ascend-with_value l i [] h k r = (h, omega (arith, ints), k, tt)
ascend-with_value l i (s ∷ ss) h k r = by (int_lt i s.lo) (int_le i (s.hi +ℤ pos 1)) refl refl (λ m. ascend-with_value (s.hi +ℤ pos 2) i ss m k r.3)
  where
    by : (before within : Bool) → int_lt i s.lo ≡ before → int_le i (s.hi +ℤ pos 1) ≡ within → ((s.hi +ℤ pos 2) ≤ℤ i → AscendFrom (s.hi +ℤ pos 2) (with_value i ss)) →
        AscendFrom l (cond before (ahead_of (record { lo = i; hi = i }) (s ∷ ss)) (cond within (ahead_of (record { lo = s.lo; hi = int_max s.hi i }) ss) (s ∷ with_value i ss)))
    by true within e f rest = ascend_less l i (ahead_of (record { lo = i; hi = i }) (s ∷ ss)) h (ascend-ahead (record { lo = i; hi = i }) s.lo (s ∷ ss) (grind (arith, ints, e)) (omega (arith, ints)) k (omega (arith, ints), r.1, r.2, r.3))
    by false true e f rest = ascend_less l s.lo (ahead_of (record { lo = s.lo; hi = int_max s.hi i }) ss) r.0
        (ascend-ahead (record { lo = s.lo; hi = int_max s.hi i }) (s.hi +ℤ pos 2) ss (omega (arith, ints, r.1)) (omega (arith, ints, clamps, r.1)) (omega (arith, ints, clamps, r.2, k)) r.3)
    by false false e f rest = (r.0, r.1, r.2, rest (grind (arith, ints, f)))

one_has : (i j : ℤ) → (int_le i j && int_le j i) ≡ int_eq j i
one_has i j = grind (arith, ints)

more_has : (a b i j : ℤ) → a ≤ℤ b → a ≤ℤ i → i ≤ℤ (b +ℤ pos 1) → (int_le a j && int_le j (int_max b i)) ≡ (int_eq j i || (int_le a j && int_le j b))
more_has a b i j h k m = grind (arith, ints, clamps)

first_or : (p q r s : Bool) → p ≡ (q || r) → (p || s) ≡ (q || (r || s))
first_or p true r s e = (λ i. e i || s)
first_or p false r s e = (λ i. e i || s)

second_or : (p q r : Bool) → (p || (q || r)) ≡ (q || (p || r))
second_or true true r = refl
second_or true false r = refl
second_or false true r = refl
second_or false false r = refl

has-with_value : (l i j : ℤ) (d : List Span) → AscendFrom l d → has_value (with_value i d) j ≡ (int_eq j i || has_value d j)
unfolding AscendFrom with_value has_value
has-with_value l i j [] r = ap (λ b. b || false) (one_has i j)
has-with_value l i j (s ∷ ss) r = by (int_lt i s.lo) (int_le i (s.hi +ℤ pos 1)) refl refl (has-with_value (s.hi +ℤ pos 2) i j ss r.3)
  where
    by : (before within : Bool) → int_lt i s.lo ≡ before → int_le i (s.hi +ℤ pos 1) ≡ within → has_value (with_value i ss) j ≡ (int_eq j i || has_value ss j) →
        has_value (cond before (ahead_of (record { lo = i; hi = i }) (s ∷ ss)) (cond within (ahead_of (record { lo = s.lo; hi = int_max s.hi i }) ss) (s ∷ with_value i ss))) j
        ≡ (int_eq j i || (span_has s j || has_value ss j))
    by true within e f rest =
        has-ahead (record { lo = i; hi = i }) s.lo j (s ∷ ss) (grind (arith, ints, e)) (omega (arith, ints)) (omega (arith, ints), r.1, r.2, r.3) ∙ ap (λ b. b || (span_has s j || has_value ss j)) (one_has i j)
    by false true e f rest =
        has-ahead (record { lo = s.lo; hi = int_max s.hi i }) (s.hi +ℤ pos 2) j ss (omega (arith, ints, r.1)) (omega (arith, ints, clamps, r.1)) r.3
        ∙ first_or (span_has (record { lo = s.lo; hi = int_max s.hi i }) j) (int_eq j i) (span_has s j) (has_value ss j) (more_has s.lo s.hi i j r.1 (grind (arith, ints, e)) (grind (arith, ints, f)))
    by false false e f rest = ap (λ b. span_has s j || b) rest ∙ second_or (span_has s j) (int_eq j i) (has_value ss j)

-- ---- all of them

within : (i : ℤ) → can_have i ≡ true → (neg_ℤ MAX_VALUE ≤ℤ i) × (i ≤ℤ MAX_VALUE)
within i e = (grind (arith, ints, e), grind (arith, ints, e))

pub values_are_a_domain : ValuesAreADomain
unfolding AscendFrom domain_of_values
values_are_a_domain [] = tt
values_are_a_domain (i ∷ is) = by (can_have i) refl (values_are_a_domain is)
  where
    by : (b : Bool) → can_have i ≡ b → IsDomain (domain_of_values is) → IsDomain (cond b (with_value i (domain_of_values is)) (domain_of_values is))
    by true e rest = let w = within i e in ascend-with_value (neg_ℤ MAX_VALUE) i (domain_of_values is) w.0 w.1 rest
    by false e rest = rest

same_integer : (x y : ℤ) → int_eq x y ≡ true → x ≡ y
same_integer x y e = grind (arith, ints)

with_it : (c e p : Bool) → (e ≡ true → c ≡ true) → (e || (c && p)) ≡ (c && (e || p))
with_it true true p h = refl
with_it true false p h = refl
with_it false true p h = absurd (let f = h refl in cc)
with_it false false p h = refl

without_it : (c e p : Bool) → (e ≡ true → c ≡ false) → (c && p) ≡ (c && (e || p))
without_it true true p h = absurd (let f = h refl in cc)
without_it true false p h = refl
without_it false e p h = refl

none : (c : Bool) → false ≡ (c && false)
none true = refl
none false = refl

pub values_are_its_own : ValuesAreItsOwn
unfolding has_value domain_of_values
values_are_its_own [] j = none (can_have j)
values_are_its_own (i ∷ is) j = by (can_have i) refl (values_are_its_own is j)
  where
    by : (b : Bool) → can_have i ≡ b → has_value (domain_of_values is) j ≡ (can_have j && list_any (int_eq j) is) →
        has_value (cond b (with_value i (domain_of_values is)) (domain_of_values is)) j ≡ (can_have j && (int_eq j i || list_any (int_eq j) is))
    by true e rest =
        has-with_value (neg_ℤ MAX_VALUE) i j (domain_of_values is) (values_are_a_domain is)
        ∙ (ap (λ b. int_eq j i || b) rest ∙ with_it (can_have j) (int_eq j i) (list_any (int_eq j) is) (λ f. ap can_have (same_integer j i f) ∙ e))
    by false e rest = rest ∙ without_it (can_have j) (int_eq j i) (list_any (int_eq j) is) (λ f. ap can_have (same_integer j i f) ∙ e)

-- ---- what lies between spans

-- spans that end below a number, and others from there on
ascend-between : (l lo hi least : ℤ) (ss : List Span) → l ≤ℤ lo → hi ≤ℤ MAX_VALUE → (hi +ℤ pos 2) ≤ℤ least → l ≤ℤ least → AscendFrom least ss → AscendFrom l (between lo hi ++ ss)
unfolding AscendFrom
ascend-between l lo hi least ss h k m n r = by (int_le lo hi) refl
  where
    by : (b : Bool) → int_le lo hi ≡ b → AscendFrom l (cond b (record { lo = lo; hi = hi } ∷ []) [] ++ ss)
    by true e = (h, grind (arith, ints, e), k, ascend_less (hi +ℤ pos 2) least ss m r)
    by false e = ascend_less l least ss n r

ascend-gaps : (l : ℤ) (d : List Span) → AscendFrom l d → AscendFrom l (gaps_from l d)
unfolding AscendFrom gaps_from
ascend-gaps l [] r = by (int_le l MAX_VALUE) refl
  where
    by : (b : Bool) → int_le l MAX_VALUE ≡ b → AscendFrom l (cond b (record { lo = l; hi = MAX_VALUE } ∷ []) [])
    by true e = (omega (arith, ints), grind (arith, ints, e), omega (arith, ints), tt)
    by false e = tt
ascend-gaps l (s ∷ ss) r =
    ascend-between l l (s.lo -ℤ pos 1) (s.hi +ℤ pos 1) (gaps_from (s.hi +ℤ pos 1) ss) (omega (arith, ints)) (omega (arith, ints, r.1, r.2)) (omega (arith, ints, r.1)) (omega (arith, ints, r.0, r.1))
    (ascend-gaps (s.hi +ℤ pos 1) ss (ascend_less (s.hi +ℤ pos 1) (s.hi +ℤ pos 2) ss (omega (arith, ints)) r.3))

pub all_but_is_a_domain : AllButIsADomain
all_but_is_a_domain d h = ascend-gaps (neg_ℤ MAX_VALUE) d h

has-behind : (ss ts : List Span) (i : ℤ) → has_value (ss ++ ts) i ≡ (has_value ss i || has_value ts i)
unfolding has_value
has-behind [] ts i = refl
has-behind (s ∷ ss) ts i = ap (λ b. span_has s i || b) (has-behind ss ts i) ∙ group (span_has s i) (has_value ss i) (has_value ts i)
  where
    group : (p q r : Bool) → (p || (q || r)) ≡ ((p || q) || r)
    group true q r = refl
    group false q r = refl

has-between : (lo hi i : ℤ) → has_value (between lo hi) i ≡ (int_le lo i && int_le i hi)
unfolding has_value
has-between lo hi i = by (int_le lo hi) refl
  where
    or_false : (b : Bool) → (b || false) ≡ b
    or_false true = refl
    or_false false = refl

    by : (b : Bool) → int_le lo hi ≡ b → has_value (cond b (record { lo = lo; hi = hi } ∷ []) []) i ≡ (int_le lo i && int_le i hi)
    by true e = or_false (int_le lo i && int_le i hi)
    by false e = grind (arith, ints, e)

outside : (s : Span) (i least : ℤ) → least ≤ℤ s.lo → i <ℤ least → span_has s i ≡ false
outside s i least h k = grind (arith, ints, h, k)

none_below : (least i : ℤ) (ss : List Span) → AscendFrom least ss → i <ℤ least → has_value ss i ≡ false
unfolding AscendFrom has_value
none_below least i [] r h = refl
none_below least i (s ∷ ss) r h =
    let first : span_has s i ≡ false = outside s i least r.0 h in
    let rest : has_value ss i ≡ false = none_below (s.hi +ℤ pos 2) i ss r.3 (omega (arith, ints, h, r.0, r.1)) in
    (λ k. first k || rest k)

parted : (l lo hi i : ℤ) (b : Bool) → l ≤ℤ lo → lo ≤ℤ hi → hi ≤ℤ MAX_VALUE → (i <ℤ (hi +ℤ pos 2) → b ≡ false) →
    ((int_le l i && int_le i (lo -ℤ pos 1)) || ((int_le (hi +ℤ pos 1) i && int_le i MAX_VALUE) && not b)) ≡ ((int_le l i && int_le i MAX_VALUE) && not ((int_le lo i && int_le i hi) || b))
parted l lo hi i false h k m n = grind (arith, ints, h, k, m)
parted l lo hi i true h k m n = by (int_lt i (hi +ℤ pos 2)) refl
  where
    by : (t : Bool) → int_lt i (hi +ℤ pos 2) ≡ t →
        ((int_le l i && int_le i (lo -ℤ pos 1)) || ((int_le (hi +ℤ pos 1) i && int_le i MAX_VALUE) && false)) ≡ ((int_le l i && int_le i MAX_VALUE) && not ((int_le lo i && int_le i hi) || true))
    by true e = absurd (let f : true ≡ false = n (grind (arith, ints, e)) in cc)
    by false e = grind (arith, ints, e, h, k, m)

-- from a number on, what has a value of no span
has-gaps : (l i : ℤ) (d : List Span) → AscendFrom l d → has_value (gaps_from l d) i ≡ ((int_le l i && int_le i MAX_VALUE) && not (has_value d i))
unfolding AscendFrom gaps_from has_value
has-gaps l i [] r = has-between l MAX_VALUE i ∙ and_true (int_le l i && int_le i MAX_VALUE)
  where
    and_true : (b : Bool) → b ≡ (b && true)
    and_true true = refl
    and_true false = refl
has-gaps l i (s ∷ ss) r =
    has-behind (between l (s.lo -ℤ pos 1)) (gaps_from (s.hi +ℤ pos 1) ss) i
    ∙ ((λ k. has-between l (s.lo -ℤ pos 1) i k || has-gaps (s.hi +ℤ pos 1) i ss (ascend_less (s.hi +ℤ pos 1) (s.hi +ℤ pos 2) ss (omega (arith, ints)) r.3) k)
    ∙ parted l s.lo s.hi i (has_value ss i) r.0 r.1 r.2 (λ h. none_below (s.hi +ℤ pos 2) i ss r.3 h))

pub all_but_has_the_others : AllButHasTheOthers
all_but_has_the_others d i h = has-gaps (neg_ℤ MAX_VALUE) i d h
