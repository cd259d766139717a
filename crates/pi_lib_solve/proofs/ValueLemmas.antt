-- What is read of the spans of a domain by their numbers.
use Rattle.std.specs.Prelude.{◌≡◌, ℕ, zero, suc, ◌+◌, ◌<◌, ◌≤◌, Bool, true, false, List, [], ◌∷◌, length, take, get_or, slice_get, Option, Some, None, option_map, ℤ, pos, neg_ℤ, ◌+ℤ◌, ◌-ℤ◌, ◌≤ℤ◌, ◌<ℤ◌, ◌⊎◌, int_le, int_lt, refl}
use Rattle.std.specs.Int.{int_gap}
use Rattle.std.specs.List.Sorted.{IsPartitionPoint}
use Rattle.std.proofs.Common.{arith, sym, ◌∙◌, ap, subst, inl, inr}
use Rattle.std.proofs.lemmas.Bool.{false≢true}
use Rattle.std.proofs.lemmas.Int.{ints, by_lt_z}
use Rattle.std.proofs.lemmas.List.{take_all, get_or_past}
use Rattle.std.proofs.lemmas.Option.{slice_get_within, get_or_from_slice_get}
use Rattle.pi_constraints.specs.declared.domain.Span.{Span}
use Rattle.pi_constraints.specs.declared.domain.TheConstants.{MAX_VALUE}
use Rattle.pi_constraints.specs.Domain.{AscendFrom, IsDomain, IsWithinBounds, has_value, size_of}
use Rattle.pi_constraints.proofs.ExtremeLemmas.{AscendFrom-get_or, AscendFrom-ends_rise, has_value-found, has_value-not_found, has_value-at, has_value-nowhere}
use Rattle.pi_constraints.proofs.SizeLemmas.{size_of-take_more}
use Rattle.pi_label.specs.Beside.{IsNextAbove, IsNextBelow}

-- where the spans end below a number
abbrev pub IsPoint : List Span → ℤ → ℕ → Type 0
IsPoint d n at = IsPartitionPoint (λ s. int_lt s.hi n ≡ true) (λ s. int_lt s.hi n ≡ false) d at

test_le : (a b : ℤ) → int_le a b ≡ true → a ≤ℤ b
test_le a b t = grind (arith, ints)

le_test : (a b : ℤ) → a ≤ℤ b → int_le a b ≡ true
le_test a b h = grind (arith, ints)

lt_test : (a b : ℤ) → b <ℤ a → int_le a b ≡ false
lt_test a b h = grind (arith, ints)

before-point : (d : List Span) (n : ℤ) (at k : ℕ) (e : Span) → IsPoint d n at → k < at → (get_or d k e).hi <ℤ n
before-point d n at k e point b = let t : int_lt (get_or d k e).hi n ≡ true = point.0 k e (omega arith) b in grind (arith, ints)

pub point-within : (d : List Span) (n : ℤ) (at : ℕ) → IsPoint d n at → at ≤ length d
point-within d n at point = elim (within-or-past (length d) at) [
  | inl past ↦ absurd (
      let e : Span = record { lo = n; hi = n } in
      let low : (get_or d (length d) e).hi <ℤ n = before-point d n at (length d) e point past in
      let is : get_or d (length d) e ≡ e = get_or_past d (length d) e (omega arith) in
      let less : n <ℤ n = subst (λ (x : Span). x.hi <ℤ n) is low in
      omega (arith, ints, less))
  | inr within ↦ within
]
  where
    within-or-past : (k n : ℕ) → (k < n) ⊎ (n ≤ k)
    within-or-past k n = grind arith

from-point : (d : List Span) (n : ℤ) (at : ℕ) (e : Span) → IsPoint d n at → at < length d → n ≤ℤ (get_or d at e).hi
from-point d n at e point h = let t : int_lt (get_or d at e).hi n ≡ false = point.1 at e (omega arith) h in grind (arith, ints)

-- a span ends below where a later one begins
rises : (least : ℤ) (d : List Span) (k at : ℕ) (e : Span) → AscendFrom least d → k < at → at < length d → ((get_or d k e).hi +ℤ pos 2) ≤ℤ (get_or d at e).lo
unfolding AscendFrom
rises least [] k at e up b h = absurd (omega arith)
rises least (s ∷ d) k zero e up b h = absurd (omega arith)
rises least (s ∷ d) zero (suc at) e up b h = (AscendFrom-get_or (s.hi +ℤ pos 2) d at e up.3 (omega arith)).from
rises least (s ∷ d) (suc k) (suc at) e up b h = rises (s.hi +ℤ pos 2) d k at e up.3 (omega arith) (omega arith)

-- a span that is there
pub record IsThere (d : List Span) (k : ℕ) (s : Span) : Type 0 where
  pub inside : k < length d
  pub is : get_or d k s ≡ s
  pub low : IsWithinBounds s.lo
  pub high : IsWithinBounds s.hi
  pub ordered : s.lo ≤ℤ s.hi

pub there : (d : List Span) (k : ℕ) (s : Span) → IsDomain d → slice_get d k ≡ Some s → IsThere d k s
there d k s up at =
    let inside : k < length d = slice_get_within d k s at in
    let is : get_or d k s ≡ s = get_or_from_slice_get d k s s at in
    let span = AscendFrom-get_or (neg_ℤ MAX_VALUE) d k s up inside in
    let from : neg_ℤ MAX_VALUE ≤ℤ s.lo = subst (λ (x : Span). neg_ℤ MAX_VALUE ≤ℤ x.lo) is span.from in
    let ordered : s.lo ≤ℤ s.hi = subst (λ (x : Span). x.lo ≤ℤ x.hi) is span.ordered in
    let bounded : s.hi ≤ℤ MAX_VALUE = subst (λ (x : Span). x.hi ≤ℤ MAX_VALUE) is span.bounded in
    record { inside = inside; is = is; low = (from, omega (arith, ints, ordered, bounded)); high = (omega (arith, ints, from, ordered), bounded); ordered = ordered }

pub outside : (d : List Span) (k : ℕ) → slice_get d k ≡ None → length d ≤ k
outside [] k e = omega arith
outside (s ∷ d) zero e = absurd cc
outside (s ∷ d) (suc k) e = let rest = outside d k e in omega (arith, rest)

-- ---- whether a number is a value

pub has-at : (d : List Span) (n : ℤ) (at : ℕ) (s : Span) (lo m : ℤ) (test : Bool) → IsDomain d → IsPoint d n at → slice_get d at ≡ Some s → lo ≡ s.lo → m ≡ n → test ≡ int_le lo m → test ≡ has_value d n
has-at d n at s lo m test up point e is same t =
    let h = there d at s up e in
    t ∙ (ap (λ (x : ℤ). int_le x m) is ∙ (ap (int_le s.lo) same ∙ (ap (λ (x : Span). int_le x.lo n) (sym h.is) ∙ sym (has_value-at d at n up point h.inside s))))

pub has-none : (d : List Span) (n : ℤ) (at : ℕ) → IsPoint d n at → slice_get d at ≡ None → false ≡ has_value d n
has-none d n at point e = sym (has_value-nowhere d at n point (outside d at e))

-- ---- the values beside a number

pub above-none : (d : List Span) (n next : ℤ) (at : ℕ) → IsPoint d next at → next ≡ n +ℤ pos 1 → slice_get d at ≡ None → IsNextAbove d n None
above-none d n next at point e none = λ m h.
    by_lt_z n m
    (λ (l : n <ℤ m).
    let past : length d ≤ at = outside d at none in
    absurd (false≢true (sym (has_value-not_found d m (record { lo = m; hi = m }) (λ k b. let c = before-point d next at k (record { lo = m; hi = m }) point (omega (arith, b, past)) in omega (arith, ints, c, e, l))) ∙ h)))
    (λ (l : m ≤ℤ n). l)

pub above-some : (d : List Span) (n next v : ℤ) (at : ℕ) (s : Span) → IsDomain d → IsPoint d next at → next ≡ n +ℤ pos 1 → slice_get d at ≡ Some s → (s.lo ≤ℤ n → n <ℤ s.hi → v ≡ next) → (n <ℤ s.lo → v ≡ s.lo) → IsNextAbove d n (Some v)
above-some d n next v at s up point e slot inside above =
    let h = there d at s up slot in
    let high : next ≤ℤ s.hi = subst (λ (x : Span). next ≤ℤ x.hi) h.is (from-point d next at s point h.inside) in
    by_lt_z n s.lo (λ (l : n <ℤ s.lo). begins h l (above l)) (λ (l : s.lo ≤ℤ n). within h high l (inside l (omega (arith, ints, e, high))))
  where
    begins : IsThere d at s → n <ℤ s.lo → v ≡ s.lo → IsNextAbove d n (Some v)
    begins h l is = subst (λ (x : ℤ). IsNextAbove d n (Some x)) (sym is) (
      has_value-found (neg_ℤ MAX_VALUE) d at s.lo s up h.inside (λ k b. let c = before-point d next at k s point b in omega (arith, ints, c, e, l)) (subst (λ (x : Span). s.lo ≤ℤ x.hi) (sym h.is) h.ordered)
          ∙ (ap (λ (x : Span). int_le x.lo s.lo) h.is ∙ le_test s.lo s.lo (omega (arith, ints))),
      l,
      λ m has low.
          by_lt_z m s.lo
          (λ (less : m <ℤ s.lo).
          absurd (false≢true (sym (lt_test s.lo m less)
          ∙ (ap (λ (x : Span). int_le x.lo m) (sym h.is)
          ∙ (sym (has_value-found (neg_ℤ MAX_VALUE) d at m s up h.inside (λ k b. let c = before-point d next at k s point b in omega (arith, ints, c, e, low)) (subst (λ (x : Span). m ≤ℤ x.hi) (sym h.is) (let o = h.ordered in omega (arith, ints, o, less)))) ∙ has)))))
          (λ (more : s.lo ≤ℤ m). more),
    )

    within : IsThere d at s → next ≤ℤ s.hi → s.lo ≤ℤ n → v ≡ next → IsNextAbove d n (Some v)
    within h high l is = subst (λ (x : ℤ). IsNextAbove d n (Some x)) (sym is) (
      has_value-at d at next up point h.inside s ∙ (ap (λ (x : Span). int_le x.lo next) h.is ∙ le_test s.lo next (omega (arith, ints, e, l))),
      omega (arith, ints, e),
      λ m has low. omega (arith, ints, e, low),
    )

-- no span from this one on has a value below the number
abbrev NoneFrom : List Span → ℤ → ℕ → Type 0
NoneFrom d n at = (m : ℤ) (e : Span) → m <ℤ n → ((k : ℕ) → k < at → (get_or d k e).hi <ℤ m) → has_value d m ≡ false

pub none-past : (d : List Span) (n : ℤ) (at : ℕ) → slice_get d at ≡ None → NoneFrom d n at
none-past d n at none = λ m e l before. has_value-not_found d m e (λ k b. before k (let past = outside d at none in omega (arith, b, past)))

pub none-begins : (d : List Span) (n : ℤ) (at : ℕ) (s : Span) → IsDomain d → slice_get d at ≡ Some s → n ≤ℤ s.lo → NoneFrom d n at
none-begins d n at s up slot low = λ m e l before.
    let h = there d at s up slot in
    let is : get_or d at e ≡ s = get_or_from_slice_get d at s e slot in
    has_value-found (neg_ℤ MAX_VALUE) d at m e up h.inside before (subst (λ (x : Span). m ≤ℤ x.hi) (sym is) (let o = h.ordered in omega (arith, ints, o, l, low)))
    ∙ (ap (λ (x : Span). int_le x.lo m) is ∙ lt_test s.lo m (omega (arith, ints, l, low)))

pub below-first : (d : List Span) (n : ℤ) (at : ℕ) (found : Option ℤ) → NoneFrom d n at → at ≡ 0 → found ≡ None → IsNextBelow d n found
below-first d n at found none first is = subst (IsNextBelow d n) (sym is) (λ m h.
    by_lt_z m n (λ (l : m <ℤ n). absurd (false≢true (sym (none m (record { lo = m; hi = m }) l (λ k b. absurd (omega (arith, b, first)))) ∙ h))) (λ (l : n ≤ℤ m). l))

pub below-before : (d : List Span) (n v : ℤ) (k at : ℕ) (s : Span) → IsDomain d → IsPoint d n at → NoneFrom d n at → at ≡ suc k → slice_get d k ≡ Some s → v ≡ s.hi → IsNextBelow d n (Some v)
below-before d n v k at s up point none follows slot is =
    let h = there d k s up slot in
    let less : s.hi <ℤ n = subst (λ (x : Span). x.hi <ℤ n) h.is (before-point d n at k s point (omega (arith, follows))) in
    subst (λ (x : ℤ). IsNextBelow d n (Some x)) (sym is) (
      has_value-found (neg_ℤ MAX_VALUE) d k s.hi s up h.inside
          (λ j b. let r = subst (λ (x : Span). ((get_or d j s).hi +ℤ pos 2) ≤ℤ x.lo) h.is (rises (neg_ℤ MAX_VALUE) d j k s up b h.inside) in let o = h.ordered in omega (arith, ints, r, o))
          (subst (λ (x : Span). s.hi ≤ℤ x.hi) (sym h.is) (omega (arith, ints)))
          ∙ (ap (λ (x : Span). int_le x.lo s.hi) h.is ∙ le_test s.lo s.hi h.ordered),
      less,
      λ m has l.
          by_lt_z s.hi m
          (λ (more : s.hi <ℤ m).
          absurd (false≢true (sym (none m s l (λ j b. let r = subst (λ (x : Span). (get_or d j s).hi ≤ℤ x.hi) h.is (AscendFrom-ends_rise (neg_ℤ MAX_VALUE) d j k s up (omega (arith, b, follows)) h.inside) in omega (arith, ints, r, more))) ∙ has)))
          (λ (within : m ≤ℤ s.hi). within),
    )

-- what stands before a place, as it is told
pub below-told : (d : List Span) (n : ℤ) (at : ℕ) (found : Option ℤ) → IsDomain d → IsPoint d n at → NoneFrom d n at → at ≤ length d → (at ≡ 0 → found ≡ None) → ((k : ℕ) → at ≡ suc k → found ≡ option_map (λ (s : Span). s.hi) (slice_get d k)) →
    IsNextBelow d n found
below-told d n zero found up point none within first other = below-first d n 0 found none refl (first refl)
below-told d n (suc k) found up point none within first other = by-span (slice_get d k) refl (other k refl)
  where
    by-span : (o : Option Span) → slice_get d k ≡ o → found ≡ option_map (λ (s : Span). s.hi) (slice_get d k) → IsNextBelow d n found
    by-span None e is = absurd (let past = outside d k e in omega (arith, within, past))
    by-span (Some s) e is = subst (IsNextBelow d n) (sym (is ∙ ap (option_map (λ (s : Span). s.hi)) e)) (below-before d n s.hi k (suc k) s up point none refl e refl)

pub below-inside : (d : List Span) (n v : ℤ) (at : ℕ) (s : Span) → IsDomain d → IsPoint d n at → slice_get d at ≡ Some s → s.lo <ℤ n → v ≡ n -ℤ pos 1 → IsNextBelow d n (Some v)
below-inside d n v at s up point slot less is =
    let h = there d at s up slot in
    let high : n ≤ℤ s.hi = subst (λ (x : Span). n ≤ℤ x.hi) h.is (from-point d n at s point h.inside) in (
      has_value-found (neg_ℤ MAX_VALUE) d at v s up h.inside
          (λ k b. let r = subst (λ (x : Span). ((get_or d k s).hi +ℤ pos 2) ≤ℤ x.lo) h.is (rises (neg_ℤ MAX_VALUE) d k at s up b h.inside) in omega (arith, ints, r, less, is))
          (subst (λ (x : Span). v ≤ℤ x.hi) (sym h.is) (omega (arith, ints, high, is)))
          ∙ (ap (λ (x : Span). int_le x.lo v) h.is ∙ le_test s.lo v (omega (arith, ints, less, is))),
      omega (arith, ints, is),
      λ m has l. omega (arith, ints, is, l),
    )

-- ---- how many values there are

pub count-more : (count width k : ℕ) (d : List Span) (s : Span) → IsDomain d → count ≡ size_of (take k d) → width ≡ suc (int_gap s.lo s.hi) → slice_get d k ≡ Some s → count + width ≡ size_of (take (k + 1) d)
count-more count width k d s up e w slot =
    let h = there d k s up slot in
    let step = size_of-take_more d k s h.inside in
    let same : suc (int_gap (get_or d k s).lo (get_or d k s).hi) ≡ suc (int_gap s.lo s.hi) = ap (λ (x : Span). suc (int_gap x.lo x.hi)) h.is in
    omega (arith, e, w, step, same)

pub count-all : (count k : ℕ) (d : List Span) → count ≡ size_of (take k d) → length d ≤ k → count ≡ size_of d
count-all count k d e past = e ∙ ap size_of (take_all k d past)
