-- Spans that have all values of others.
use Rattle.std.specs.Prelude.{◌≡◌, ℕ, zero, suc, ◌+◌, ◌<◌, ◌≤◌, Bool, true, false, ◌&&◌, ◌||◌, IsTrue, List, [], ◌∷◌, length, take, get_or, ℤ, ◌≤ℤ◌, int_le, refl}
use Rattle.std.proofs.Common.{arith, sym, ◌∙◌, ap, subst, inl, inr}
use Rattle.std.proofs.lemmas.Bool.{or_cases, or_left, or_right, and_parts}
use Rattle.std.proofs.lemmas.Int.{ints}
use Rattle.std.proofs.lemmas.List.{take_more, take_all}
use Rattle.pi_constraints.specs.declared.domain.Span.{Span}
use Rattle.pi_constraints.specs.Domain.{span_has, has_value}
use Rattle.pi_constraints.proofs.SpanLemmas.{has_value-append}

-- all values of some spans are values of others
abbrev pub AreValuesOf : List Span → List Span → Type 0
AreValuesOf spans others = (m : ℤ) → IsTrue (has_value spans m) → IsTrue (has_value others m)

pub none_are : (spans others : List Span) → AreValuesOf (take 0 spans) others
unfolding has_value
none_are spans others m h = absurd (cc)

in_one : (ss : List Span) (j : ℕ) (e : Span) (m : ℤ) → j < length ss → (get_or ss j e).lo ≤ℤ m → m ≤ℤ (get_or ss j e).hi → IsTrue (has_value ss m)
unfolding has_value
in_one [] j e m l low high = absurd (omega arith)
in_one (s ∷ ss) zero e m l low high = or_left (span_has s m) (has_value ss m) (grind (arith, ints))
in_one (s ∷ ss) (suc j) e m l low high = or_right (span_has s m) (has_value ss m) (in_one ss j e m (omega arith) low high)

of_one : (s : Span) (m : ℤ) → IsTrue (has_value (s ∷ []) m) → IsTrue (span_has s m)
unfolding has_value
of_one s m h = elim (or_cases (span_has s m) false h) [ inl t ↦ t | inr t ↦ absurd (cc) ]

-- one more span lies within one of the others
pub one_more : (spans others : List Span) (i j : ℕ) (e : Span) → i < length spans → j < length others → (get_or others j e).lo ≤ℤ (get_or spans i e).lo → (get_or spans i e).hi ≤ℤ (get_or others j e).hi → AreValuesOf (take i spans) others → AreValuesOf (take (i + 1) spans) others
one_more spans others i j e l k low high all m h =
    let split : has_value (take (i + 1) spans) m ≡ (has_value (take i spans) m || has_value (get_or spans i e ∷ []) m) =
    ap (λ (x : List Span). has_value x m) (take_more spans i e l) ∙ has_value-append (take i spans) (get_or spans i e ∷ []) m in
    elim (or_cases (has_value (take i spans) m) (has_value (get_or spans i e ∷ []) m) (sym split ∙ h)) [
      | inl t ↦ all m t
      | inr t ↦
          let p = and_parts (int_le (get_or spans i e).lo m) (int_le m (get_or spans i e).hi) (of_one (get_or spans i e) m t) in
          in_one others j e m k (grind (arith, ints, p.0)) (grind (arith, ints, p.1))
    ]

pub all_are : (spans others : List Span) (i : ℕ) → length spans ≤ i → AreValuesOf (take i spans) others → AreValuesOf spans others
all_are spans others i l h = subst (λ (x : List Span). AreValuesOf x others) (take_all i spans l) h
