-- What is found of the items, one more at a time.
use Rattle.std.specs.Prelude.{◌≡◌, ◌↔◌, ℕ, suc, ◌<◌, ◌≤◌, ◌+◌, ◌^◌, Bool, true, false, ◌||◌, IsTrue, All, List, [], ◌∷◌, ◌++◌, ℤ, pos, ◌+ℤ◌, neg_ℤ, ◌≤ℤ◌, ◌<ℤ◌, int_le, refl}
use Rattle.std.proofs.Common.{arith, sym, ◌∙◌, ap, subst, inl, inr}
use Rattle.std.proofs.lemmas.Bool.{and_parts, and_from, or_cases, or_left, or_right, cases_eq, false≢true}
use Rattle.std.proofs.lemmas.Int.{ints}
use Rattle.std.proofs.lemmas.List.Elements.{All-nil, All-cons, All-append}
use Rattle.pi_constraints.specs.declared.domain.TheConstants.{MAX_VALUE}
use Rattle.pi_constraints.specs.declared.domain.Span.{Span}
use Rattle.pi_constraints.specs.Domain.{AscendFrom, IsDomain, span_has, has_value}
use Rattle.pi_constraints.proofs.SpanLemmas.{has_value-append}
use Rattle.pi_prop_spec.specs.Ends.{least_of, greatest_of}
use Rattle.pi_prop_spec.specs.Places.{domain_at}
use Rattle.pi_prop_spec.proofs.EndLemmas.{least-below, greatest-above}
use Rattle.pi_prop_places.proofs.RoundLemmas.{le_test, test_le}
use Rattle.pi_prop_filters.specs.Spans.{IsSpan}
use Rattle.pi_prop_filters.specs.Choices.{IsChosen, AreNumbers, AreValues, Adds}

-- ---- adding the spans of a domain

spans_ascend : (least : ℤ) (d : List Span) → neg_ℤ MAX_VALUE ≤ℤ least → AscendFrom least d → All IsSpan d
unfolding AscendFrom
spans_ascend least [] l up = All-nil IsSpan
spans_ascend least (s ∷ ss) l up = All-cons IsSpan s ss (omega (arith, ints, up.0), up.1, up.2) (spans_ascend (s.hi +ℤ pos 2) ss (omega (arith, ints, up.0, up.1)) up.3)

pub adds_all : (lo hi : ℤ) (d old new : List Span) → IsDomain d → new ≡ old ++ d → Adds lo hi d old new
adds_all lo hi d old new up e = subst (Adds lo hi d old) (sym e) (record {
  spans = λ all. All-append IsSpan old d all (spans_ascend (neg_ℤ MAX_VALUE) d (omega (arith, ints)) up);
  values = λ n l h. has_value-append old d n;
})

nothing_more : (b c : Bool) → (c ≡ true → ⊥) → b ≡ (b || c)
nothing_more true c o = refl
nothing_more false true o = absurd (o refl)
nothing_more false false o = refl

pub adds_none : (lo hi : ℤ) (d old : List Span) → ((n : ℤ) → lo ≤ℤ n → n ≤ℤ hi → IsTrue (has_value d n) → ⊥) → Adds lo hi d old old
adds_none lo hi d old o = record { spans = λ all. all; values = λ n l h. nothing_more (has_value old n) (has_value d n) (o n l h) }

pub adds_none_above : (lo hi : ℤ) (d old : List Span) → IsDomain d → hi <ℤ least_of d → Adds lo hi d old old
adds_none_above lo hi d old up b = adds_none lo hi d old (λ n l h t. let m : least_of d ≤ℤ n = least-below d n up t in omega (arith, ints))

pub adds_none_below : (lo hi : ℤ) (d old : List Span) → IsDomain d → greatest_of d <ℤ lo → Adds lo hi d old old
adds_none_below lo hi d old up b = adds_none lo hi d old (λ n l h t. let m : n ≤ℤ greatest_of d = greatest-above d n up t in omega (arith, ints))

-- ---- numbers of items

no_value : (n : ℤ) → IsTrue (has_value [] n) → ⊥
unfolding has_value
no_value n t = false≢true t

pub numbers_none : (count : ℕ) (ds : List (List Span)) → AreNumbers count 1 ds []
numbers_none count ds = record { spans = All-nil IsSpan; numbers = λ n. (λ t. absurd (no_value n t), λ p. absurd (omega (arith, p.1, p.2))) }

still_below : (j i : ℕ) → j < i + 1 → (j ≡ i → ⊥) → j < i
still_below j i l o = omega arith

pub numbers_passed : (count i : ℕ) (ds : List (List Span)) (made : List Span) → (IsChosen count ds i → ⊥) → AreNumbers count i ds made → AreNumbers count (i + 1) ds made
numbers_passed count i ds made o f = record {
  spans = f.spans;
  numbers = λ n. (
    λ t. let p = (f.numbers n).0 t in (p.0, p.1, omega (arith, p.2), p.3, p.4),
    λ p. (f.numbers n).1 (p.0, p.1, still_below p.0 i p.2 (λ e. o (subst (IsChosen count ds) e p.4)), p.3, p.4),
  );
}

has_one : (v n : ℤ) → IsTrue (has_value ((record { lo = v; hi = v }) ∷ []) n) ↔ (n ≡ v)
unfolding has_value
has_one v n = (
  λ t. elim (or_cases (span_has (record { lo = v; hi = v }) n) false t) [
    | inl h ↦
        let p = and_parts (int_le v n) (int_le n v) h in
        let low : v ≤ℤ n = test_le v n p.0 in
        let high : n ≤ℤ v = test_le n v p.1 in
        omega (arith, ints)
    | inr h ↦ absurd (false≢true h)
  ],
  λ e. or_left (span_has (record { lo = v; hi = v }) n) false (and_from (int_le v n) (int_le n v) (le_test v n (omega (arith, ints))) (le_test n v (omega (arith, ints)))),
)

pub numbers_pushed : (count i : ℕ) (ds : List (List Span)) (made new : List Span) (v w : ℤ) → v ≡ pos i → w ≡ pos i → new ≡ made ++ (record { lo = v; hi = w }) ∷ [] → 1 ≤ i → i ≤ 2 ^ 20 → IsChosen count ds i
    → AreNumbers count i ds made → AreNumbers count (i + 1) ds new
numbers_pushed count i ds made new v w e e2 is low high here f =
    let one : Span = record { lo = pos i; hi = pos i } in
    let whole : new ≡ made ++ one ∷ [] = is ∙ (λ k. made ++ (record { lo = e k; hi = e2 k }) ∷ []) in
    subst (AreNumbers count (i + 1) ds) (sym whole) (record {
      spans = All-append IsSpan made (one ∷ []) f.spans (All-cons IsSpan one [] (omega (arith, ints), omega (arith, ints), omega (arith, ints)) (All-nil IsSpan));
      numbers = λ n.
          let split = has_value-append made (one ∷ []) n in (
            λ t. elim (or_cases (has_value made n) (has_value (one ∷ []) n) (sym split ∙ t)) [
              | inl h ↦ let p = (f.numbers n).0 h in (p.0, p.1, omega (arith, p.2), p.3, p.4)
              | inr h ↦ (i, low, omega arith, (has_one (pos i) n).0 h, here)
            ],
            λ p. elim (cases_eq p.0 i) [
              | inl s ↦ split ∙ or_right (has_value made n) (has_value (one ∷ []) n) ((has_one (pos i) n).1 (p.3 ∙ ap pos s))
              | inr s ↦ split ∙ or_left (has_value made n) (has_value (one ∷ []) n) ((f.numbers n).1 (p.0, p.1, still_below p.0 i p.2 s, p.3, p.4))
            ],
          );
    })

-- ---- values of items

pub values_none : (count : ℕ) (ds : List (List Span)) → AreValues count 1 ds []
values_none count ds = record { spans = All-nil IsSpan; values = λ n b. (λ t. absurd (no_value n t), λ p. absurd (omega (arith, p.1, p.2))) }

pub values_passed : (count i : ℕ) (ds : List (List Span)) (made : List Span) → has_value (domain_at ds 0) (pos i) ≡ false → AreValues count i ds made → AreValues count (i + 1) ds made
values_passed count i ds made o f = record {
  spans = f.spans;
  values = λ n b. (
    λ t. let p = (f.values n b).0 t in (p.0, p.1, omega (arith, p.2), p.3, p.4),
    λ p. (f.values n b).1 (p.0, p.1, still_below p.0 i p.2 (λ e. false≢true (sym o ∙ subst (λ (j : ℕ). IsTrue (has_value (domain_at ds 0) (pos j))) e p.3)), p.3, p.4),
  );
}

pub values_added : (count i m : ℕ) (ds : List (List Span)) (made new : List Span) (lo hi : ℤ) → Adds lo hi (domain_at ds i) made new → m ≡ suc count → IsDomain (domain_at ds m) → lo ≡ least_of (domain_at ds m) → hi ≡ greatest_of (domain_at ds m)
    → 1 ≤ i → has_value (domain_at ds 0) (pos i) ≡ true → AreValues count i ds made → AreValues count (i + 1) ds new
values_added count i m ds made new lo hi add at up e e2 low here f = record {
  spans = add.spans f.spans;
  values = λ n b.
      let value : IsTrue (has_value (domain_at ds m) n) = subst (λ (k : ℕ). IsTrue (has_value (domain_at ds k) n)) (sym at) b in
      let split = add.values n (subst (λ (z : ℤ). z ≤ℤ n) (sym e) (least-below (domain_at ds m) n up value)) (subst (λ (z : ℤ). n ≤ℤ z) (sym e2) (greatest-above (domain_at ds m) n up value)) in (
        λ t. elim (or_cases (has_value made n) (has_value (domain_at ds i) n) (sym split ∙ t)) [
          | inl h ↦ let p = (f.values n b).0 h in (p.0, p.1, omega (arith, p.2), p.3, p.4)
          | inr h ↦ (i, low, omega arith, here, h)
        ],
        λ p. elim (cases_eq p.0 i) [
          | inl s ↦ split ∙ or_right (has_value made n) (has_value (domain_at ds i) n) (subst (λ (j : ℕ). IsTrue (has_value (domain_at ds j) n)) s p.4)
          | inr s ↦ split ∙ or_left (has_value made n) (has_value (domain_at ds i) n) ((f.values n b).1 (p.0, p.1, still_below p.0 i p.2 s, p.3, p.4))
        ],
      );
}
