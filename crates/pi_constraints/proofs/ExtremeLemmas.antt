-- The least and the greatest value, and where a value is found.
use Rattle.std.specs.Prelude.{◌≡◌, ℕ, zero, suc, ◌<◌, ◌≤◌, ◌+◌, ◌-◌, take, Bool, true, false, List, [], ◌∷◌, ◌++◌, length, ℤ, pos, ◌+ℤ◌, neg_ℤ, ◌≤ℤ◌, ◌<ℤ◌, int_le, int_lt, refl, Some, slice_get}
use Rattle.std.proofs.Common.{arith, sym, ◌∙◌, ap, subst, get_or}
use Rattle.std.proofs.lemmas.Int.{ints}
use Rattle.std.proofs.lemmas.List.{take_more, take_all}
use Rattle.std.proofs.lemmas.Option.{slice_get_within, get_or_from_slice_get}
use Rattle.std.specs.List.Sorted.{IsPartitionedBy, IsPartitionPoint}
use Rattle.pi_constraints.specs.declared.domain.TheConstants.{MAX_VALUE}
use Rattle.pi_constraints.specs.declared.domain.Span.{Span}
use Rattle.pi_constraints.specs.Domain.{AscendFrom, IsDomain, span_has, has_value, IsLeastValue, IsGreatestValue}
use Rattle.pi_constraints.proofs.DomainLemmas.{IsLeastValue-first, IsGreatestValue-last}
use Rattle.pi_constraints.proofs.SpanLemmas.{has_value-below}

-- the first span, and the last
pub IsLeastValue-at : (d : List Span) (s : Span) (n : ℤ) → IsDomain d → slice_get d 0 ≡ Some s → n ≡ s.lo → IsLeastValue d n
IsLeastValue-at [] s n up is e = cc
IsLeastValue-at (t ∷ ss) s n up is e = subst (λ (m : ℤ). IsLeastValue (t ∷ ss) m) (let same : t ≡ s = cc in ap (λ (x : Span). x.lo) same ∙ sym e) (IsLeastValue-first t ss up)

pub IsGreatestValue-at : (d : List Span) (s : Span) (n : ℤ) → IsDomain d → slice_get d (length d - 1) ≡ Some s → n ≡ s.hi → IsGreatestValue d n
IsGreatestValue-at d s n up is e =
    let inside : length d - 1 < length d = slice_get_within d (length d - 1) s is in
    let count : (length d - 1) + 1 ≡ length d = omega arith in
    let last : get_or d (length d - 1) s ≡ s = get_or_from_slice_get d (length d - 1) s s is in
    let split : d ≡ take (length d - 1) d ++ s ∷ [] =
    sym (take_all (length d) d (omega arith)) ∙ (ap (λ (k : ℕ). take k d) (sym count) ∙ (take_more d (length d - 1) s inside ∙ ap (λ (x : Span). take (length d - 1) d ++ x ∷ []) last)) in
    subst (λ (x : List Span). IsGreatestValue x n) (sym split)
    (subst (λ (m : ℤ). IsGreatestValue (take (length d - 1) d ++ s ∷ []) m) (sym e)
    (IsGreatestValue-last (take (length d - 1) d) s (subst IsDomain split up)))

-- the value is found in the first span whose end isn't below it
pub has_value-found : (least : ℤ) (ss : List Span) (at : ℕ) (n : ℤ) (e : Span) → AscendFrom least ss → at < length ss → ((k : ℕ) → k < at → (get_or ss k e).hi <ℤ n) → n ≤ℤ (get_or ss at e).hi → has_value ss n ≡ int_le (get_or ss at e).lo n
unfolding AscendFrom has_value
has_value-found least [] at n e up h before here = absurd (omega arith)
has_value-found least (s ∷ ss) zero n e up h before here =
    let rest : has_value ss n ≡ false = has_value-below (s.hi +ℤ pos 2) ss n up.3 (omega (arith, ints)) in
    grind (arith, ints, rest)
has_value-found least (s ∷ ss) (suc at) n e up h before here =
    let first : s.hi <ℤ n = before 0 (omega arith) in
    let outside : span_has s n ≡ false = grind (arith, ints) in
    let rest : has_value ss n ≡ int_le (get_or ss at e).lo n = has_value-found (s.hi +ℤ pos 2) ss at n e up.3 (omega arith) (λ k b. before (suc k) (omega arith)) here in
    grind (arith, outside, rest)

pub has_value-not_found : (ss : List Span) (n : ℤ) (e : Span) → ((k : ℕ) → k < length ss → (get_or ss k e).hi <ℤ n) → has_value ss n ≡ false
unfolding has_value
has_value-not_found [] n e all = refl
has_value-not_found (s ∷ ss) n e all =
    let first : s.hi <ℤ n = all 0 (omega arith) in
    let outside : span_has s n ≡ false = grind (arith, ints) in
    let rest : has_value ss n ≡ false = has_value-not_found ss n e (λ k b. all (suc k) (omega arith)) in
    grind (arith, outside, rest)

-- what each span of a domain is
pub record IsSpanFrom (least : ℤ) (s : Span) : Type 0 where
  pub from : least ≤ℤ s.lo
  pub ordered : s.lo ≤ℤ s.hi
  pub bounded : s.hi ≤ℤ MAX_VALUE

pub AscendFrom-get_or : (least : ℤ) (ss : List Span) (i : ℕ) (e : Span) → AscendFrom least ss → i < length ss → IsSpanFrom least (get_or ss i e)
unfolding AscendFrom
AscendFrom-get_or least [] i e up below = absurd (omega arith)
AscendFrom-get_or least (s ∷ ss) zero e up below = record { from = up.0; ordered = up.1; bounded = up.2 }
AscendFrom-get_or least (s ∷ ss) (suc i) e up below =
    let r = AscendFrom-get_or (s.hi +ℤ pos 2) ss i e up.3 (omega arith) in
    record { from = omega (arith, ints); ordered = r.ordered; bounded = r.bounded }

-- a later span ends no lower
pub AscendFrom-ends_rise : (least : ℤ) (ss : List Span) (i j : ℕ) (e : Span) → AscendFrom least ss → i ≤ j → j < length ss → (get_or ss i e).hi ≤ℤ (get_or ss j e).hi
unfolding AscendFrom
AscendFrom-ends_rise least [] i j e up h below = absurd (omega arith)
AscendFrom-ends_rise least (s ∷ ss) zero zero e up h below = omega (arith, ints)
AscendFrom-ends_rise least (s ∷ ss) zero (suc j) e up h below = let r = AscendFrom-get_or (s.hi +ℤ pos 2) ss j e up.3 (omega arith) in omega (arith, ints)
AscendFrom-ends_rise least (s ∷ ss) (suc i) zero e up h below = absurd (omega arith)
AscendFrom-ends_rise least (s ∷ ss) (suc i) (suc j) e up h below = AscendFrom-ends_rise (s.hi +ℤ pos 2) ss i j e up.3 (omega arith) (omega arith)

-- whether a span ends below n
abbrev pub ends_below : ℤ → Span → Bool
ends_below n s = int_lt s.hi n

-- no span that ends below n comes after one that doesn't
pub IsPartitionedBy-ends_below : (least : ℤ) (ss : List Span) (n : ℤ) → AscendFrom least ss → IsPartitionedBy (ends_below n) ss
IsPartitionedBy-ends_below least ss n up i j e h below t =
    let rise = AscendFrom-ends_rise least ss i j e up h below in
    grind (arith, ints)

-- what the first span that doesn't end below n tells of n
pub has_value-at : (ss : List Span) (at : ℕ) (n : ℤ) → IsDomain ss → IsPartitionPoint (λ s. ends_below n s ≡ true) (λ s. ends_below n s ≡ false) ss at → at < length ss → (e : Span) → has_value ss n ≡ int_le (get_or ss at e).lo n
has_value-at ss at n up point h e =
    has_value-found (neg_ℤ MAX_VALUE) ss at n e up h (λ k b. let t : int_lt (get_or ss k e).hi n ≡ true = point.0 k e (omega arith) b in grind (arith, ints))
    (let f : int_lt (get_or ss at e).hi n ≡ false = point.1 at e (omega arith) h in grind (arith, ints))

pub has_value-nowhere : (ss : List Span) (at : ℕ) (n : ℤ) → IsPartitionPoint (λ s. ends_below n s ≡ true) (λ s. ends_below n s ≡ false) ss at → length ss ≤ at → has_value ss n ≡ false
has_value-nowhere ss at n point h =
    has_value-not_found ss n (record { lo = pos 0; hi = pos 0 }) (λ k b. let t : int_lt (get_or ss k (record { lo = pos 0; hi = pos 0 })).hi n ≡ true = point.0 k (record { lo = pos 0; hi = pos 0 }) (omega arith) (omega arith) in grind (arith, ints))
