-- Spans that ascend by their starts, one more at a time.
use Rattle.std.specs.Prelude.{◌≡◌, ℕ, ◌<◌, ◌+◌, ◌≤◌, Bool, true, false, ◌||◌, All, List, [], ◌∷◌, ◌++◌, ℤ, pos, ◌+ℤ◌, neg_ℤ, ◌≤ℤ◌, ◌<ℤ◌, int_le, refl, take}
use Rattle.std.specs.Int.{int_max}
use Rattle.std.specs.Ordering.{int_cmp, is_lt}
use Rattle.std.specs.List.{list_any}
use Rattle.std.specs.List.Sorted.{IsSortedByKey, IsPermutation}
use Rattle.std.proofs.Common.{◌-◌, length, get_or, arith, sym, ◌∙◌, ap, subst, inl, inr}
use Rattle.std.proofs.lemmas.Bool.{and_parts, and_from, or_cases, or_left, or_right}
use Rattle.std.proofs.lemmas.Int.{ints, clamps, by_lt_z}
use Rattle.std.proofs.lemmas.List.{take_more, take_all}
use Rattle.std.proofs.lemmas.List.Elements.{All-get_or}
use Rattle.std.proofs.lemmas.List.Sorted.{list_any-IsPermutation}
use Rattle.pi_constraints.specs.declared.domain.TheConstants.{MAX_VALUE}
use Rattle.pi_constraints.specs.declared.domain.Span.{Span}
use Rattle.pi_constraints.specs.Domain.{AscendFrom, IsDomain, IsWithinBounds, span_has, has_value}
use Rattle.pi_constraints.proofs.SpanLemmas.{AscendFrom-append, AscendFrom-first, AscendFrom-last, has_value-append, next_start-push, next_start-grows}
use Rattle.pi_prop_places.proofs.RoundLemmas.{same_tests, le_test, test_le}
use Rattle.pi_prop_filters.specs.Spans.{IsSpan, AscendByStart}

-- ---- their order

has_value-any : (ss : List Span) (n : ℤ) → has_value ss n ≡ list_any (λ s. span_has s n) ss
unfolding has_value
has_value-any [] n = refl
has_value-any (s ∷ ss) n = ap (λ (b : Bool). span_has s n || b) (has_value-any ss n)

-- the order of spans doesn't count
pub has_value-moved : (ss ts : List Span) (n : ℤ) → IsPermutation ss ts → has_value ts n ≡ has_value ss n
has_value-moved ss ts n p = has_value-any ts n ∙ (sym (list_any-IsPermutation (λ s. span_has s n) ss ts p) ∙ sym (has_value-any ss n))

not_below : (x y : ℤ) → is_lt (int_cmp x y) ≡ false → y ≤ℤ x
not_below x y h = grind (arith, ints)

pub sorted_ascend : (ss : List Span) → IsSortedByKey (λ s. s.lo) int_cmp ss → AscendByStart ss
sorted_ascend ss up k d l = not_below (get_or ss (k + 1) d).lo (get_or ss k d).lo (up k d (omega arith) l)

-- ---- one more span

-- the numbers of some spans, of which none is behind the last span
pub record Joined (ss done : List Span) (last : Span) : Type 0 where
  pub domain : IsDomain (done ++ last ∷ [])
  pub values : (n : ℤ) → has_value (done ++ last ∷ []) n ≡ has_value ss n

longer_has : (lo hi start stop top n : ℤ) → top ≡ int_max hi stop → lo ≤ℤ start → start ≤ℤ (hi +ℤ pos 1)
    → span_has (record { lo = lo; hi = top }) n ≡ (span_has (record { lo = lo; hi = hi }) n || span_has (record { lo = start; hi = stop }) n)
longer_has lo hi start stop top n e l t =
    let first : Bool = span_has (record { lo = lo; hi = hi }) n in
    let more : Bool = span_has (record { lo = start; hi = stop }) n in
    same_tests (span_has (record { lo = lo; hi = top }) n) (first || more)
    (λ h.
    let p = and_parts (int_le lo n) (int_le n top) h in
    let low : lo ≤ℤ n = test_le lo n p.0 in
    let high : n ≤ℤ top = test_le n top p.1 in
    by_lt_z hi n
    (λ b. or_right first more (and_from (int_le start n) (int_le n stop) (le_test start n (omega (arith, ints))) (le_test n stop (omega (arith, ints, clamps)))))
    (λ b. or_left first more (and_from (int_le lo n) (int_le n hi) p.0 (le_test n hi b))))
    (λ h. elim (or_cases first more h) [
      | inl f ↦
          let p = and_parts (int_le lo n) (int_le n hi) f in
          let high : n ≤ℤ hi = test_le n hi p.1 in
          and_from (int_le lo n) (int_le n top) p.0 (le_test n top (omega (arith, ints, clamps)))
      | inr f ↦
          let p = and_parts (int_le start n) (int_le n stop) f in
          let low : start ≤ℤ n = test_le start n p.0 in
          let high : n ≤ℤ stop = test_le n stop p.1 in
          and_from (int_le lo n) (int_le n top) (le_test lo n (omega (arith, ints))) (le_test n top (omega (arith, ints, clamps)))
    ])

has_value-one : (s : Span) (n : ℤ) → has_value (s ∷ []) n ≡ span_has s n
unfolding has_value
has_value-one s n = grind arith

or_swept : (a b c d : Bool) → d ≡ (b || c) → (a || d) ≡ ((a || b) || c)
or_swept true b c d e = refl
or_swept false b c d e = e

Joined-longer : (ss done : List Span) (last s : Span) (top : ℤ) → Joined ss done last → IsSpan s → top ≡ int_max last.hi s.hi → last.lo ≤ℤ s.lo → s.lo ≤ℤ (last.hi +ℤ pos 1)
    → Joined (ss ++ s ∷ []) done (record { lo = last.lo; hi = top })
unfolding AscendFrom
Joined-longer ss done last s top h is e l t =
    let longer : Span = record { lo = last.lo; hi = top } in
    let tail = AscendFrom-last (neg_ℤ MAX_VALUE) done (last ∷ []) h.domain in
    record {
      domain = AscendFrom-append (neg_ℤ MAX_VALUE) done (longer ∷ []) (AscendFrom-first (neg_ℤ MAX_VALUE) done (last ∷ []) h.domain)
          (tail.0, omega (arith, ints, clamps, tail.1, e), omega (arith, ints, clamps, tail.2, is.2, e), tt);
      values = λ n.
          has_value-append done (longer ∷ []) n
          ∙ (or_swept (has_value done n) (has_value (last ∷ []) n) (has_value (s ∷ []) n) (has_value (longer ∷ []) n)
          (has_value-one longer n ∙ (longer_has last.lo last.hi s.lo s.hi top n e l t ∙ (λ i. sym (has_value-one last n) i || sym (has_value-one s n) i)))
          ∙ (ap (λ (b : Bool). b || has_value (s ∷ []) n) (sym (has_value-append done (last ∷ []) n) ∙ h.values n)
          ∙ sym (has_value-append ss (s ∷ []) n)));
    }

Joined-further : (ss done : List Span) (last s : Span) → Joined ss done last → IsSpan s → (last.hi +ℤ pos 1) <ℤ s.lo → Joined (ss ++ s ∷ []) (done ++ last ∷ []) s
unfolding AscendFrom
Joined-further ss done last s h is far = record {
  domain = AscendFrom-append (neg_ℤ MAX_VALUE) (done ++ last ∷ []) (s ∷ []) h.domain
      (subst (λ (x : ℤ). AscendFrom x (s ∷ [])) (sym (next_start-push (neg_ℤ MAX_VALUE) done last)) (omega (arith, ints), is.1, is.2, tt));
  values = λ n.
      has_value-append (done ++ last ∷ []) (s ∷ []) n
      ∙ (ap (λ (b : Bool). b || has_value (s ∷ []) n) (h.values n) ∙ sym (has_value-append ss (s ∷ []) n));
}

-- ---- the spans before a place

pub record JoinedBefore (ss : List Span) (i : ℕ) (done : List Span) (last : Span) : Type 0 where
  pub joined : Joined (take i ss) done last
  pub starts : last.lo ≤ℤ (get_or ss (i - 1) (record { lo = pos 0; hi = pos 0 })).lo

one_more : (ss : List Span) (i : ℕ) (s : Span) → i < length ss → s ≡ get_or ss i (record { lo = pos 0; hi = pos 0 }) → take i ss ++ s ∷ [] ≡ take (i + 1) ss
one_more ss i s h e = ap (λ (x : Span). take i ss ++ x ∷ []) e ∙ sym (take_more ss i (record { lo = pos 0; hi = pos 0 }) h)

pub is_span : (ss : List Span) (i : ℕ) (s : Span) → All IsSpan ss → i < length ss → s ≡ get_or ss i (record { lo = pos 0; hi = pos 0 }) → IsSpan s
is_span ss i s all h e = subst IsSpan (sym e) (All-get_or IsSpan ss i (record { lo = pos 0; hi = pos 0 }) h all)

pub span_within : (s : Span) → IsSpan s → IsWithinBounds s.lo × IsWithinBounds s.hi
span_within s h = ((h.0, omega (arith, ints, h.1, h.2)), (omega (arith, ints, h.0, h.1), h.2))

-- all of them, with the last
pub joined_domain : (ss : List Span) (i : ℕ) (done made : List Span) (last : Span) → JoinedBefore ss i done last → made ≡ done ++ last ∷ [] → IsDomain made
joined_domain ss i done made last before is = subst IsDomain (sym is) before.joined.domain

pub joined_values : (ss : List Span) (i : ℕ) (done made : List Span) (last : Span) (n : ℤ) → length ss ≤ i → JoinedBefore ss i done last → made ≡ done ++ last ∷ [] → has_value made n ≡ has_value ss n
joined_values ss i done made last n l before is = ap (λ (x : List Span). has_value x n) is ∙ (before.joined.values n ∙ ap (λ (x : List Span). has_value x n) (take_all i ss l))

first_joined : (s : Span) → IsSpan s → Joined (s ∷ []) [] s
unfolding AscendFrom
first_joined s h = record { domain = (h.0, h.1, h.2, tt); values = λ n. refl }

starts_at : (ss : List Span) (i : ℕ) (lo : ℤ) (s : Span) → s ≡ get_or ss i (record { lo = pos 0; hi = pos 0 }) → lo ≤ℤ s.lo → lo ≤ℤ (get_or ss (i + 1 - 1) (record { lo = pos 0; hi = pos 0 })).lo
starts_at ss i lo s e l =
    let k : i ≡ i + 1 - 1 = omega arith in
    subst (λ (x : ℕ). lo ≤ℤ (get_or ss x (record { lo = pos 0; hi = pos 0 })).lo) k (subst (λ (x : Span). lo ≤ℤ x.lo) e l)

pub JoinedBefore-first : (ss done : List Span) (s : Span) → All IsSpan ss → 0 < length ss → s ≡ get_or ss 0 (record { lo = pos 0; hi = pos 0 }) → done ≡ [] → JoinedBefore ss 1 done s
JoinedBefore-first ss done s all h e nothing = record {
  joined = subst (λ (x : List Span). Joined x done s) (one_more ss 0 s h e) (subst (λ (x : List Span). Joined (s ∷ []) x s) (sym nothing) (first_joined s (is_span ss 0 s all h e)));
  starts = starts_at ss 0 s.lo s e (omega (arith, ints));
}

pub JoinedBefore-further : (ss : List Span) (i : ℕ) (done new : List Span) (last s : Span) (lo top : ℤ) → All IsSpan ss → i < length ss → JoinedBefore ss i done last → s ≡ get_or ss i (record { lo = pos 0; hi = pos 0 })
    → (last.hi +ℤ pos 1) <ℤ s.lo → new ≡ done ++ last ∷ [] → lo ≡ s.lo → top ≡ s.hi → JoinedBefore ss (i + 1) new (record { lo = lo; hi = top })
JoinedBefore-further ss i done new last s lo top all h before e far is starts same = subst (λ (x : ℤ). JoinedBefore ss (i + 1) new (record { lo = x; hi = top })) (sym starts) (record {
  joined = subst (λ (x : ℤ). Joined (take (i + 1) ss) new (record { lo = s.lo; hi = x })) (sym same)
      (subst (λ (x : List Span). Joined (take (i + 1) ss) x s) (sym is)
      (subst (λ (x : List Span). Joined x (done ++ last ∷ []) s) (one_more ss i s h e) (Joined-further (take i ss) done last s before.joined (is_span ss i s all h e) far)));
  starts = starts_at ss i s.lo s e (omega (arith, ints));
})

pub JoinedBefore-longer : (ss : List Span) (i : ℕ) (done new : List Span) (last s : Span) (lo top : ℤ) → AscendByStart ss → All IsSpan ss → 0 < i → i < length ss → JoinedBefore ss i done last
    → s ≡ get_or ss i (record { lo = pos 0; hi = pos 0 }) → s.lo ≤ℤ (last.hi +ℤ pos 1) → new ≡ done → lo ≡ last.lo → top ≡ int_max last.hi s.hi → JoinedBefore ss (i + 1) new (record { lo = lo; hi = top })
JoinedBefore-longer ss i done new last s lo top up all more h before e near is starts tops =
    let at : (i - 1) + 1 ≡ i = omega arith in
    let rise : (get_or ss (i - 1) (record { lo = pos 0; hi = pos 0 })).lo ≤ℤ (get_or ss i (record { lo = pos 0; hi = pos 0 })).lo =
    subst (λ (k : ℕ). (get_or ss (i - 1) (record { lo = pos 0; hi = pos 0 })).lo ≤ℤ (get_or ss k (record { lo = pos 0; hi = pos 0 })).lo) at (up (i - 1) (record { lo = pos 0; hi = pos 0 }) (omega arith)) in
    let same : s.lo ≡ (get_or ss i (record { lo = pos 0; hi = pos 0 })).lo = ap (λ (x : Span). x.lo) e in
    let low : last.lo ≤ℤ s.lo = omega (arith, ints, before.starts, rise, same) in
    subst (λ (x : ℤ). JoinedBefore ss (i + 1) new (record { lo = x; hi = top })) (sym starts) (record {
      joined = subst (λ (x : List Span). Joined (take (i + 1) ss) x (record { lo = last.lo; hi = top })) (sym is)
          (subst (λ (x : List Span). Joined x done (record { lo = last.lo; hi = top })) (one_more ss i s h e)
          (Joined-longer (take i ss) done last s top before.joined (is_span ss i s all h e) tops low near));
      starts = starts_at ss i last.lo s e low;
    })

pub last_within : (ss : List Span) (i : ℕ) (done : List Span) (last : Span) → JoinedBefore ss i done last → IsWithinBounds last.hi
unfolding AscendFrom
last_within ss i done last before =
    let tail = AscendFrom-last (neg_ℤ MAX_VALUE) done (last ∷ []) before.joined.domain in
    let grows = next_start-grows (neg_ℤ MAX_VALUE) done (AscendFrom-first (neg_ℤ MAX_VALUE) done (last ∷ []) before.joined.domain) in
    (omega (arith, ints, tail.0, tail.1, grows), tail.2)
