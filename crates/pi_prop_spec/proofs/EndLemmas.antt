-- The ends of domains.
use Rattle.std.specs.Prelude.{◌≡◌, ◌≢◌, true, false, IsTrue, List, [], ◌∷◌, ℤ, pos, ◌+ℤ◌, neg_ℤ, ◌≤ℤ◌, int_le, refl}
use Rattle.std.proofs.Common.{arith, inl, inr}
use Rattle.std.proofs.lemmas.Bool.{or_cases, or_right, and_parts}
use Rattle.std.proofs.lemmas.Int.{ints}
use Rattle.pi_constraints.specs.declared.domain.TheConstants.{MAX_VALUE}
use Rattle.pi_constraints.specs.declared.domain.Span.{Span}
use Rattle.pi_constraints.specs.Domain.{AscendFrom, IsDomain, span_has, has_value}
use Rattle.pi_constraints.proofs.DomainLemmas.{IsLeastValue-first}
use Rattle.pi_prop_spec.specs.Ends.{least_of, greatest_of, IsBetween, IsFixed, IsFixedTo}

start_below_end : (least : ℤ) (s : Span) (ss : List Span) → AscendFrom least (s ∷ ss) → s.lo ≤ℤ greatest_of (s ∷ ss)
unfolding AscendFrom greatest_of
start_below_end least s [] up = up.1
start_below_end least s (t ∷ ss) up =
    let rest : t.lo ≤ℤ greatest_of (t ∷ ss) = start_below_end (s.hi +ℤ pos 2) t ss up.3 in
    let gap : (s.hi +ℤ pos 2) ≤ℤ t.lo = up.3.0 in
    let here : s.lo ≤ℤ s.hi = up.1 in
    omega (arith, ints)

end_is_value : (least : ℤ) (s : Span) (ss : List Span) → AscendFrom least (s ∷ ss) → IsTrue (has_value (s ∷ ss) (greatest_of (s ∷ ss)))
unfolding AscendFrom greatest_of has_value
end_is_value least s [] up = let here : s.lo ≤ℤ s.hi = up.1 in grind (arith, ints)
end_is_value least s (t ∷ ss) up = or_right (span_has s (greatest_of (t ∷ ss))) (has_value (t ∷ ss) (greatest_of (t ∷ ss))) (end_is_value (s.hi +ℤ pos 2) t ss up.3)

none_above_end : (least : ℤ) (s : Span) (ss : List Span) (n : ℤ) → AscendFrom least (s ∷ ss) → IsTrue (has_value (s ∷ ss) n) → n ≤ℤ greatest_of (s ∷ ss)
unfolding AscendFrom greatest_of has_value
none_above_end least s [] n up h = elim (or_cases (span_has s n) false h) [
  | inl e ↦ let p = and_parts (int_le s.lo n) (int_le n s.hi) e in omega (arith, ints, p.1)
  | inr e ↦ absurd (cc)
]
none_above_end least s (t ∷ ss) n up h = elim (or_cases (span_has s n) (has_value (t ∷ ss) n) h) [
  | inl e ↦
      let p = and_parts (int_le s.lo n) (int_le n s.hi) e in
      let top : int_le n s.hi ≡ true = p.1 in
      let rest : t.lo ≤ℤ greatest_of (t ∷ ss) = start_below_end (s.hi +ℤ pos 2) t ss up.3 in
      let gap : (s.hi +ℤ pos 2) ≤ℤ t.lo = up.3.0 in
      omega (arith, ints)
  | inr e ↦ none_above_end (s.hi +ℤ pos 2) t ss n up.3 e
]

pub least-has : (d : List Span) → IsDomain d → d ≢ [] → IsTrue (has_value d (least_of d))
least-has [] up some = absurd (some refl)
least-has (s ∷ ss) up some = (IsLeastValue-first s ss up).is_value

pub greatest-has : (d : List Span) → IsDomain d → d ≢ [] → IsTrue (has_value d (greatest_of d))
greatest-has [] up some = absurd (some refl)
greatest-has (s ∷ ss) up some = end_is_value (neg_ℤ MAX_VALUE) s ss up

pub least-below : (d : List Span) (n : ℤ) → IsDomain d → IsTrue (has_value d n) → least_of d ≤ℤ n
unfolding has_value
least-below [] n up h = absurd (cc)
least-below (s ∷ ss) n up h = (IsLeastValue-first s ss up).none_below n h

pub greatest-above : (d : List Span) (n : ℤ) → IsDomain d → IsTrue (has_value d n) → n ≤ℤ greatest_of d
unfolding has_value
greatest-above [] n up h = absurd (cc)
greatest-above (s ∷ ss) n up h = none_above_end (neg_ℤ MAX_VALUE) s ss n up h

pub between : (d : List Span) (n : ℤ) → IsDomain d → IsTrue (has_value d n) → IsBetween d n
between d n up h = (least-below d n up h, greatest-above d n up h)

pub not_empty : (d : List Span) (n : ℤ) → IsTrue (has_value d n) → d ≢ []
unfolding has_value
not_empty [] n h = λ e. absurd (cc)
not_empty (s ∷ ss) n h = λ e. absurd (cc)

-- the ends of the second domain lie within those of the first
pub record EndsWithin (d e : List Span) : Type 0 where
  pub low : least_of d ≤ℤ least_of e
  pub ordered : least_of e ≤ℤ greatest_of e
  pub high : greatest_of e ≤ℤ greatest_of d

pub ends_within : (d e : List Span) → IsDomain d → IsDomain e → e ≢ [] → ((n : ℤ) → IsTrue (has_value e n) → IsTrue (has_value d n)) → EndsWithin d e
ends_within d e up is some sub = record {
  low = least-below d (least_of e) up (sub (least_of e) (least-has e is some));
  ordered = least-below e (greatest_of e) is (greatest-has e is some);
  high = greatest-above d (greatest_of e) up (sub (greatest_of e) (greatest-has e is some));
}

-- where the wider domain is fixed, so is the other, to the same value
pub fixed_within : (d e : List Span) → EndsWithin d e → IsFixed d → (least_of e ≡ least_of d) × (greatest_of e ≡ greatest_of d)
fixed_within d e w fixed = (omega (arith, ints), omega (arith, ints))

pub fixed_to_within : (d e : List Span) (v : ℤ) → EndsWithin d e → IsFixedTo d v → IsFixedTo e v
fixed_to_within d e v w fixed = (omega (arith, ints), omega (arith, ints))

pub only_value : (d : List Span) (v n : ℤ) → IsDomain d → IsFixedTo d v → IsTrue (has_value d n) → n ≡ v
only_value d v n up fixed h = let b = between d n up h in omega (arith, ints, b.0, b.1)
