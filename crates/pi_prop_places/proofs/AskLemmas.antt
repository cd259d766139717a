-- Where domains have values between two numbers, and values in common.
use Rattle.std.specs.Prelude.{◌≡◌, ◌↔◌, ◌⊎◌, ℕ, zero, suc, ◌+◌, ◌<◌, ◌≤◌, true, false, IsTrue, List, [], ◌∷◌, length, drop, ℤ, neg_ℤ, ◌≤ℤ◌, ◌<ℤ◌, int_le, int_lt, refl}
use Rattle.std.specs.Int.{int_max}
use Rattle.std.specs.List.Sorted.{IsPartitionPoint}
use Rattle.std.proofs.Common.{arith, sym, ◌∙◌, subst, get_or, inl, inr}
use Rattle.std.proofs.lemmas.Bool.{or_cases, or_left, or_right, and_parts, and_from, false≢true}
use Rattle.std.proofs.lemmas.Int.{ints, clamps, by_lt_z}
use Rattle.std.proofs.lemmas.List.{drop_more, drop_all}
use Rattle.pi_constraints.specs.declared.domain.TheConstants.{MAX_VALUE}
use Rattle.pi_constraints.specs.declared.domain.Span.{Span}
use Rattle.pi_constraints.specs.Domain.{IsDomain, span_has, has_value}
use Rattle.pi_constraints.proofs.SpanLemmas.{AscendFrom-drop}
use Rattle.pi_constraints.proofs.DomainLemmas.{IsLeastValue-first}
use Rattle.pi_constraints.proofs.ExtremeLemmas.{ends_below, has_value-found, has_value-not_found, AscendFrom-get_or}
use Rattle.pi_prop_spec.specs.Rules.{ShareAValue}
use Rattle.pi_prop_places.specs.Reads.{HasValueBetween}
use Rattle.pi_prop_places.proofs.RoundLemmas.{le_test, test_le}

-- ---- between two numbers

below_point : (ss : List Span) (at : ℕ) (lo : ℤ) (e : Span) → IsPartitionPoint (λ s. ends_below lo s ≡ true) (λ s. ends_below lo s ≡ false) ss at → (k : ℕ) → k < at → (get_or ss k e).hi <ℤ lo
below_point ss at lo e point k b = let t : int_lt (get_or ss k e).hi lo ≡ true = point.0 k e (omega arith) b in grind (arith, ints)

at_point : (ss : List Span) (at : ℕ) (lo : ℤ) (e : Span) → IsPartitionPoint (λ s. ends_below lo s ≡ true) (λ s. ends_below lo s ≡ false) ss at → at < length ss → lo ≤ℤ (get_or ss at e).hi
at_point ss at lo e point h = let f : int_lt (get_or ss at e).hi lo ≡ false = point.1 at e (omega arith) h in grind (arith, ints)

greater_of : (lo s n hi top : ℤ) → n ≡ int_max lo s → lo ≤ℤ hi → s ≤ℤ hi → lo ≤ℤ top → s ≤ℤ top → (lo ≤ℤ n) × (s ≤ℤ n) × (n ≤ℤ hi) × (n ≤ℤ top)
greater_of lo s n hi top e h k l m = (omega (arith, ints, clamps), omega (arith, ints, clamps), omega (arith, ints, clamps), omega (arith, ints, clamps))

pub between_found : (ss : List Span) (at : ℕ) (lo hi : ℤ) (e : Span) → IsDomain ss → IsPartitionPoint (λ s. ends_below lo s ≡ true) (λ s. ends_below lo s ≡ false) ss at → at < length ss → lo ≤ℤ hi
    → IsTrue (int_le (get_or ss at e).lo hi) ↔ HasValueBetween ss lo hi
between_found ss at lo hi e up point h o =
    let span = AscendFrom-get_or (neg_ℤ MAX_VALUE) ss at e up h in
    let top : lo ≤ℤ (get_or ss at e).hi = at_point ss at lo e point h in
    let before : (k : ℕ) → k < at → (get_or ss k e).hi <ℤ lo = below_point ss at lo e point in (
      λ t.
          let s : ℤ = (get_or ss at e).lo in
          let n : ℤ = int_max lo s in
          let b = greater_of lo s n hi (get_or ss at e).hi refl o (test_le s hi t) top span.ordered in
          let found : has_value ss n ≡ int_le s n = has_value-found (neg_ℤ MAX_VALUE) ss at n e up h (λ k l. let c : (get_or ss k e).hi <ℤ lo = before k l in let d : lo ≤ℤ n = b.0 in omega (arith, ints)) b.3 in
          (n, found ∙ le_test s n b.1, b.0, b.2),
      λ f.
          let s : ℤ = (get_or ss at e).lo in
          let n : ℤ = f.0 in
          let low : lo ≤ℤ n = f.2 in
          let high : n ≤ℤ hi = f.3 in
          by_lt_z hi s
          (λ m.
          let ordered : s ≤ℤ (get_or ss at e).hi = span.ordered in
          let found : has_value ss n ≡ int_le s n = has_value-found (neg_ℤ MAX_VALUE) ss at n e up h (λ k l. let c : (get_or ss k e).hi <ℤ lo = before k l in omega (arith, ints)) (omega (arith, ints)) in
          let none : int_le s n ≡ false = grind (arith, ints) in
          absurd (false≢true (sym (found ∙ none) ∙ f.1)))
          (λ m. le_test s hi m),
    )

pub between_nowhere : (ss : List Span) (at : ℕ) (lo hi : ℤ) (e : Span) → IsPartitionPoint (λ s. ends_below lo s ≡ true) (λ s. ends_below lo s ≡ false) ss at → length ss ≤ at → HasValueBetween ss lo hi → ⊥
between_nowhere ss at lo hi e point h f =
    let n : ℤ = f.0 in
    let low : lo ≤ℤ n = f.2 in
    let none : has_value ss n ≡ false = has_value-not_found ss n e (λ k l. let c : (get_or ss k e).hi <ℤ lo = below_point ss at lo e point k (omega arith) in omega (arith, ints)) in
    false≢true (sym none ∙ f.1)

-- ---- values in common

-- what two domains share is what is left of them
pub SharedIn : List Span → List Span → List Span → List Span → Type 0
SharedIn d e ds es = (n : ℤ) → IsTrue (has_value d n) → IsTrue (has_value e n) → IsTrue (has_value ds n) × IsTrue (has_value es n)

first_above : (s : Span) (ss : List Span) (n : ℤ) → IsDomain (s ∷ ss) → IsTrue (has_value (s ∷ ss) n) → s.lo ≤ℤ n
first_above s ss n up h = (IsLeastValue-first s ss up).none_below n h

behind_span : (a b : Span) (ds es : List Span) (n : ℤ) → IsDomain (b ∷ es) → a.hi <ℤ b.lo → IsTrue (has_value (a ∷ ds) n) → IsTrue (has_value (b ∷ es) n) → IsTrue (has_value ds n)
unfolding has_value
behind_span a b ds es n up h p q = elim (or_cases (span_has a n) (has_value ds n) p) [
  | inl t ↦
      let c = and_parts (int_le a.lo n) (int_le n a.hi) t in
      let high : n ≤ℤ a.hi = test_le n a.hi c.1 in
      let low : b.lo ≤ℤ n = first_above b es n up q in
      absurd (omega (arith, ints))
  | inr t ↦ t
]

pub shared_next : (d e : List Span) (i j : ℕ) (z : Span) → IsDomain e → i < length d → j < length e → (get_or d i z).hi <ℤ (get_or e j z).lo → SharedIn d e (drop i d) (drop j e) → SharedIn d e (drop (i + 1) d) (drop j e)
unfolding SharedIn
shared_next d e i j z up hi hj l h n p q =
    let both = h n p q in
    let ds : drop i d ≡ get_or d i z ∷ drop (i + 1) d = drop_more d i z hi in
    let es : drop j e ≡ get_or e j z ∷ drop (j + 1) e = drop_more e j z hj in
    let rest : IsTrue (has_value (drop (i + 1) d) n) = behind_span (get_or d i z) (get_or e j z) (drop (i + 1) d) (drop (j + 1) e) n
    (subst IsDomain es (AscendFrom-drop (neg_ℤ MAX_VALUE) j e up)) l
    (subst (λ (x : List Span). IsTrue (has_value x n)) ds both.0) (subst (λ (x : List Span). IsTrue (has_value x n)) es both.1) in
    (rest, both.1)

pub shared_turned : (d e ds es : List Span) → SharedIn d e ds es → SharedIn e d es ds
unfolding SharedIn
shared_turned d e ds es h n p q = let both = h n q p in (both.1, both.0)

pub shared_first : (d e : List Span) → SharedIn d e d e
unfolding SharedIn
shared_first d e n p q = (p, q)

pub shared_over : (d e : List Span) (i j : ℕ) → (length d ≤ i) ⊎ (length e ≤ j) → SharedIn d e (drop i d) (drop j e) → ShareAValue d e → ⊥
unfolding SharedIn has_value
shared_over d e i j (inl l) h f = let t : IsTrue (has_value [] f.0) = subst (λ (x : List Span). IsTrue (has_value x f.0)) (drop_all i d l) ((h f.0 f.1 f.2).0) in absurd (cc)
shared_over d e i j (inr l) h f = let t : IsTrue (has_value [] f.0) = subst (λ (x : List Span). IsTrue (has_value x f.0)) (drop_all j e l) ((h f.0 f.1 f.2).1) in absurd (cc)

in_span_at : (ss : List Span) (i : ℕ) (z : Span) (n : ℤ) → i < length ss → (get_or ss i z).lo ≤ℤ n → n ≤ℤ (get_or ss i z).hi → IsTrue (has_value ss n)
unfolding has_value
in_span_at [] i z n l p q = absurd (omega arith)
in_span_at (s ∷ ss) zero z n l p q = or_left (span_has s n) (has_value ss n) (and_from (int_le s.lo n) (int_le n s.hi) (le_test s.lo n p) (le_test n s.hi q))
in_span_at (s ∷ ss) (suc i) z n l p q = or_right (span_has s n) (has_value ss n) (in_span_at ss i z n (omega arith) p q)

pub shared_here : (d e : List Span) (i j : ℕ) (z : Span) → IsDomain d → IsDomain e → i < length d → j < length e → (get_or e j z).lo ≤ℤ (get_or d i z).hi → (get_or d i z).lo ≤ℤ (get_or e j z).hi → ShareAValue d e
shared_here d e i j z up vp hi hj l m =
    let a = AscendFrom-get_or (neg_ℤ MAX_VALUE) d i z up hi in
    let b = AscendFrom-get_or (neg_ℤ MAX_VALUE) e j z vp hj in
    let n : ℤ = int_max (get_or d i z).lo (get_or e j z).lo in
    let g = greater_of (get_or d i z).lo (get_or e j z).lo n (get_or d i z).hi (get_or e j z).hi refl a.ordered l m b.ordered in
    (n, in_span_at d i z n hi g.0 g.2, in_span_at e j z n hj g.1 g.3)

-- ---- a place that isn't there

no_value_in : (d : List Span) (n : ℤ) → d ≡ [] → IsTrue (has_value d n) → ⊥
unfolding has_value
no_value_in d n e h = let t : false ≡ true = subst (λ (x : List Span). IsTrue (has_value x n)) e h in absurd (cc)

pub none_between : (d : List Span) (lo hi : ℤ) → d ≡ [] → HasValueBetween d lo hi → ⊥
none_between d lo hi e v = no_value_in d v.0 e v.1

pub none_shared : (d e : List Span) → (d ≡ []) ⊎ (e ≡ []) → ShareAValue d e → ⊥
none_shared d e (inl h) v = no_value_in d v.0 h v.1
none_shared d e (inr h) v = no_value_in e v.0 h v.2
