-- Spans of which one loses a value.
use Rattle.std.specs.Prelude.{◌≡◌, ℕ, zero, suc, ◌+◌, ◌<◌, ◌≤◌, Bool, true, false, not, ◌&&◌, ◌||◌, List, [], ◌∷◌, ◌++◌, length, drop, get_or, slice_set, FitsSigned, ℤ, pos, negsuc, ◌+ℤ◌, ◌-ℤ◌, neg_ℤ, ◌≤ℤ◌, ◌<ℤ◌, int_le, refl}
use Rattle.std.specs.List.{insert, remove}
use Rattle.std.specs.Ordering.{int_eq}
use Rattle.std.specs.Int.{w64}
use Rattle.std.proofs.Common.{arith, sym, ◌∙◌, ap, subst, inl, inr, to_z, of_z}
use Rattle.std.proofs.lemmas.Int.{ints, by_lt_z, to_z-of_z}
use Rattle.std.proofs.lemmas.List.{drop_all, drop_more}
use Rattle.pi_constraints.specs.declared.domain.TheConstants.{MAX_VALUE}
use Rattle.pi_constraints.specs.declared.domain.Span.{Span}
use Rattle.pi_constraints.specs.Domain.{AscendFrom, IsDomain, IsWithinBounds, span_has, has_value}
use Rattle.pi_constraints.proofs.SpanLemmas.{AscendFrom-lower, AscendFrom-drop, has_value-below}
use Rattle.pi_constraints.proofs.ClipLemmas.{int_eq_is}
use Rattle.pi_constraints.proofs.ExtremeLemmas.{AscendFrom-get_or}
use Rattle.pi_prop_places.proofs.NarrowedCuts.{from_to, least_below}

-- other spans in the place of one
abbrev replaced : List Span → ℕ → List Span → List Span
replaced [] at part = []
replaced (s ∷ ss) zero part = part ++ ss
replaced (s ∷ ss) (suc at) part = s ∷ replaced ss at part

-- a part of a span has its values other than n, whatever spans follow
record IsWithout (n : ℤ) (s : Span) (part : List Span) : Type 0 where
  pub domain : (least : ℤ) (ss : List Span) → AscendFrom least (s ∷ ss) → AscendFrom least (part ++ ss)
  pub values : (least : ℤ) (ss : List Span) (m : ℤ) → AscendFrom least (s ∷ ss) → has_value (part ++ ss) m ≡ (has_value (s ∷ ss) m && not (int_eq m n))

-- spans behind n don't have it
rest_without : (least n m : ℤ) (ss : List Span) → AscendFrom least ss → n <ℤ least → has_value ss m ≡ (has_value ss m && not (int_eq m n))
rest_without least n m ss up h = elim (int_eq_is m n) [
  | inl e ↦ let same : m ≡ n = e.1 in let none : has_value ss m ≡ false = has_value-below least ss m up (omega (arith, ints)) in grind (arith, none)
  | inr e ↦ let b : int_eq m n ≡ false = e.0 in grind (arith, b)
]

split_values : (p q r b e : Bool) → q ≡ (p && not e) → r ≡ (b && not e) → (q || r) ≡ ((p || b) && not e)
split_values true q r b true h g = grind (arith, h, g)
split_values true q r b false h g = grind (arith, h, g)
split_values false q r b true h g = grind (arith, h, g)
split_values false q r b false h g = grind (arith, h, g)

without_all : (n : ℤ) (s : Span) → s.lo ≡ n → s.hi ≡ n → IsWithout n s []
unfolding AscendFrom has_value
without_all n s l h = record {
  domain = λ least ss up. AscendFrom-lower least (s.hi +ℤ pos 2) ss (omega (arith, ints, up.0, up.1)) up.3;
  values = λ least ss m up.
      let rest = rest_without (s.hi +ℤ pos 2) n m ss up.3 (omega (arith, ints)) in
      let here : false ≡ (span_has s m && not (int_eq m n)) = elim (int_eq_is m n) [ inl e ↦ let b : int_eq m n ≡ true = e.0 in grind (arith, b) | inr e ↦ elim e.1 [ inl o ↦ grind (arith, ints) | inr o ↦ grind (arith, ints) ] ] in
      split_values (span_has s m) false (has_value ss m) (has_value ss m) (int_eq m n) here rest;
}

one_without : (n m : ℤ) (s t : Span) → s.lo ≡ n → t.lo ≡ n +ℤ pos 1 → t.hi ≡ s.hi → span_has t m ≡ (span_has s m && not (int_eq m n))
one_without n m s t l k h = elim (int_eq_is m n) [
  | inl e ↦ let same : m ≡ n = e.1 in let b : int_eq m n ≡ true = e.0 in let out : int_le t.lo m ≡ false = grind (arith, ints) in grind (arith, b, out)
  | inr e ↦ elim e.1 [
    | inl o ↦ let b : int_eq m n ≡ false = e.0 in let out : int_le t.lo m ≡ false = grind (arith, ints) in let out2 : int_le s.lo m ≡ false = grind (arith, ints) in grind (arith, b, out, out2)
    | inr o ↦ let b : int_eq m n ≡ false = e.0 in let low : int_le t.lo m ≡ true = grind (arith, ints) in let low2 : int_le s.lo m ≡ true = grind (arith, ints) in let same : int_le m t.hi ≡ int_le m s.hi = ap (λ (x : ℤ). int_le m x) h in grind (arith, b, low, low2, same)
  ]
]

without_first : (n : ℤ) (s t : Span) → s.lo ≡ n → n <ℤ s.hi → t.lo ≡ n +ℤ pos 1 → t.hi ≡ s.hi → IsWithout n s (t ∷ [])
unfolding AscendFrom has_value
without_first n s t l o k h = record {
  domain = λ least ss up. (omega (arith, ints, up.0), omega (arith, ints), omega (arith, ints, up.2), subst (λ (x : ℤ). AscendFrom (x +ℤ pos 2) ss) (sym h) up.3);
  values = λ least ss m up. split_values (span_has s m) (span_has t m) (has_value ss m) (has_value ss m) (int_eq m n) (one_without n m s t l k h) (rest_without (s.hi +ℤ pos 2) n m ss up.3 (omega (arith, ints)));
}

last_without : (n m : ℤ) (s t : Span) → s.hi ≡ n → t.lo ≡ s.lo → t.hi ≡ n -ℤ pos 1 → span_has t m ≡ (span_has s m && not (int_eq m n))
last_without n m s t l k h = elim (int_eq_is m n) [
  | inl e ↦ let same : m ≡ n = e.1 in let b : int_eq m n ≡ true = e.0 in let out : int_le m t.hi ≡ false = grind (arith, ints) in grind (arith, b, out)
  | inr e ↦ elim e.1 [
    | inl o ↦ let b : int_eq m n ≡ false = e.0 in let high : int_le m t.hi ≡ true = grind (arith, ints) in let high2 : int_le m s.hi ≡ true = grind (arith, ints) in let same : int_le t.lo m ≡ int_le s.lo m = ap (λ (x : ℤ). int_le x m) k in grind (arith, b, high, high2, same)
    | inr o ↦ let b : int_eq m n ≡ false = e.0 in let out : int_le m t.hi ≡ false = grind (arith, ints) in let out2 : int_le m s.hi ≡ false = grind (arith, ints) in grind (arith, b, out, out2)
  ]
]

without_last : (n : ℤ) (s t : Span) → s.hi ≡ n → s.lo <ℤ n → t.lo ≡ s.lo → t.hi ≡ n -ℤ pos 1 → IsWithout n s (t ∷ [])
unfolding AscendFrom has_value
without_last n s t l o k h = record {
  domain = λ least ss up. (omega (arith, ints, up.0), omega (arith, ints), omega (arith, ints, up.2), AscendFrom-lower (t.hi +ℤ pos 2) (s.hi +ℤ pos 2) ss (omega (arith, ints)) up.3);
  values = λ least ss m up. split_values (span_has s m) (span_has t m) (has_value ss m) (has_value ss m) (int_eq m n) (last_without n m s t l k h) (rest_without (s.hi +ℤ pos 2) n m ss up.3 (omega (arith, ints)));
}

or_implied : (b c : Bool) → (b ≡ true → c ≡ true) → c ≡ (b || c)
or_implied true c h = h refl
or_implied false c h = refl

both_halves : (s : Span) (n m : ℤ) → s.lo ≤ℤ n → n ≤ℤ s.hi → span_has s m ≡ (span_has (from_to s.lo n) m || span_has (from_to n s.hi) m)
both_halves s n m l h = by_lt_z m n
    (λ b. let out : int_le n m ≡ false = grind (arith, ints) in let high : int_le m n ≡ true = grind (arith, ints) in let top : int_le m s.hi ≡ true = grind (arith, ints) in grind (arith, out, high, top))
    (λ b.
    let low : int_le n m ≡ true = grind (arith, ints) in
    let low2 : int_le s.lo m ≡ true = grind (arith, ints) in
    let one : int_le m s.hi ≡ (int_le m n || int_le m s.hi) = or_implied (int_le m n) (int_le m s.hi) (λ t. grind (arith, ints)) in
    grind (arith, low, low2, one))

-- a span is all that ends at n and all that begins behind it
without_middle : (n : ℤ) (s t u : Span) → s.lo <ℤ n → n <ℤ s.hi → t.lo ≡ s.lo → t.hi ≡ n -ℤ pos 1 → u.lo ≡ n +ℤ pos 1 → u.hi ≡ s.hi → IsWithout n s (t ∷ u ∷ [])
unfolding AscendFrom has_value
without_middle n s t u o p k h i j =
    let f = without_first n (from_to n s.hi) u refl p i j in
    let l = without_last n (from_to s.lo n) t refl o k h in record {
      domain = λ least ss up. (omega (arith, ints, up.0), omega (arith, ints), omega (arith, ints, up.2), (omega (arith, ints), omega (arith, ints), omega (arith, ints, up.2), subst (λ (x : ℤ). AscendFrom (x +ℤ pos 2) ss) (sym j) up.3));
      values = λ least ss m up.
          let rest = rest_without (s.hi +ℤ pos 2) n m ss up.3 (omega (arith, ints)) in
          let first : span_has t m ≡ (span_has (from_to s.lo n) m && not (int_eq m n)) = last_without n m (from_to s.lo n) t refl k h in
          let second : span_has u m ≡ (span_has (from_to n s.hi) m && not (int_eq m n)) = one_without n m (from_to n s.hi) u refl i j in
          let whole : span_has s m ≡ (span_has (from_to s.lo n) m || span_has (from_to n s.hi) m) = both_halves s n m (omega (arith, ints)) (omega (arith, ints)) in
          let front = split_values (span_has (from_to n s.hi) m) (span_has u m) (has_value ss m) (has_value ss m) (int_eq m n) second rest in
          let all = split_values (span_has (from_to s.lo n) m) (span_has t m) (span_has u m || has_value ss m) (span_has (from_to n s.hi) m || has_value ss m) (int_eq m n) first front in
          grind (arith, all, whole);
    }

-- ---- in the place of one span

replaced_domain : (least n : ℤ) (ss : List Span) (at : ℕ) (e : Span) (part : List Span) → AscendFrom least ss → at < length ss → IsWithout n (get_or ss at e) part → AscendFrom least (replaced ss at part)
unfolding AscendFrom
replaced_domain least n [] at e part up l f = absurd (omega arith)
replaced_domain least n (s ∷ ss) zero e part up l f = f.domain least ss up
replaced_domain least n (s ∷ ss) (suc at) e part up l f = (up.0, up.1, up.2, replaced_domain (s.hi +ℤ pos 2) n ss at e part up.3 (omega arith) f)

before_without : (s : Span) (n m : ℤ) → s.hi <ℤ n → span_has s m ≡ (span_has s m && not (int_eq m n))
before_without s n m h = elim (int_eq_is m n) [
  | inl e ↦ let same : m ≡ n = e.1 in let out : int_le m s.hi ≡ false = grind (arith, ints) in grind (arith, out)
  | inr e ↦ let b : int_eq m n ≡ false = e.0 in grind (arith, b)
]

replaced_values : (least n : ℤ) (ss : List Span) (at : ℕ) (e : Span) (part : List Span) → AscendFrom least ss → at < length ss → (get_or ss at e).lo ≤ℤ n → IsWithout n (get_or ss at e) part → (m : ℤ) → has_value (replaced ss at part) m ≡ (has_value ss m && not (int_eq m n))
unfolding AscendFrom has_value
replaced_values least n [] at e part up l h f m = absurd (omega arith)
replaced_values least n (s ∷ ss) zero e part up l h f m = f.values least ss m up
replaced_values least n (s ∷ ss) (suc at) e part up l h f m =
    let low : (s.hi +ℤ pos 2) ≤ℤ n = least_below (s.hi +ℤ pos 2) ss at e n up.3 (omega arith) h in
    split_values (span_has s m) (span_has s m) (has_value (replaced ss at part) m) (has_value ss m) (int_eq m n) (before_without s n m (omega (arith, ints))) (replaced_values (s.hi +ℤ pos 2) n ss at e part up.3 (omega arith) h f m)

-- ---- as edits of a list

replaced-remove : (ss : List Span) (at : ℕ) → at < length ss → remove ss at ≡ replaced ss at []
replaced-remove [] at l = absurd (omega arith)
replaced-remove (s ∷ ss) zero l = refl
replaced-remove (s ∷ ss) (suc at) l = ap (λ (x : List Span). s ∷ x) (replaced-remove ss at (omega arith))

replaced-set : (ss : List Span) (at : ℕ) (t : Span) → at < length ss → slice_set ss at t ≡ replaced ss at (t ∷ [])
replaced-set [] at t l = absurd (omega arith)
replaced-set (s ∷ ss) zero t l = refl
replaced-set (s ∷ ss) (suc at) t l = ap (λ (x : List Span). s ∷ x) (replaced-set ss at t (omega arith))

replaced-insert : (ss : List Span) (at : ℕ) (t u : Span) → at < length ss → slice_set (insert ss (suc at) u) at t ≡ replaced ss at (t ∷ u ∷ [])
replaced-insert [] at t u l = absurd (omega arith)
replaced-insert (s ∷ ss) zero t u l = refl
replaced-insert (s ∷ ss) (suc at) t u l = ap (λ (x : List Span). s ∷ x) (replaced-insert ss at t u (omega arith))

-- ---- as the code has it

without_is : (ss new : List Span) (at : ℕ) (e : Span) (n : ℤ) (part : List Span) → IsDomain ss → at < length ss → e ≡ get_or ss at e → IsWithout n e part → new ≡ replaced ss at part → IsDomain new
without_is ss new at e n part up l here f is = subst IsDomain (sym is) (replaced_domain (neg_ℤ MAX_VALUE) n ss at e part up l (subst (λ (x : Span). IsWithout n x part) here f))

without_has : (ss new : List Span) (at : ℕ) (e : Span) (n : ℤ) (part : List Span) → IsDomain ss → at < length ss → e ≡ get_or ss at e → e.lo ≤ℤ n → IsWithout n e part → new ≡ replaced ss at part → (m : ℤ) → has_value new m ≡ (has_value ss m && not (int_eq m n))
without_has ss new at e n part up l here low f is m =
    ap (λ (x : List Span). has_value x m) is ∙ replaced_values (neg_ℤ MAX_VALUE) n ss at e part up l (subst (λ (x : Span). x.lo ≤ℤ n) here low) (subst (λ (x : Span). IsWithout n x part) here f) m

pub removed_is : (ss new : List Span) (at : ℕ) (e : Span) (n : ℤ) → IsDomain ss → at < length ss → e ≡ get_or ss at e → e.lo ≡ n → e.hi ≡ n → new ≡ remove ss at → IsDomain new
removed_is ss new at e n up l here lo hi is = without_is ss new at e n [] up l here (without_all n e lo hi) (is ∙ replaced-remove ss at l)

pub removed_has : (ss new : List Span) (at : ℕ) (e : Span) (n : ℤ) → IsDomain ss → at < length ss → e ≡ get_or ss at e → e.lo ≡ n → e.hi ≡ n → new ≡ remove ss at → (m : ℤ) → has_value new m ≡ (has_value ss m && not (int_eq m n))
removed_has ss new at e n up l here lo hi is = without_has ss new at e n [] up l here (omega (arith, ints)) (without_all n e lo hi) (is ∙ replaced-remove ss at l)

pub first_is : (ss : List Span) (at : ℕ) (e : Span) (n lo hi : ℤ) → IsDomain ss → at < length ss → e ≡ get_or ss at e → e.lo ≡ n → n <ℤ e.hi → lo ≡ n +ℤ pos 1 → hi ≡ e.hi → IsDomain (slice_set ss at (from_to lo hi))
first_is ss at e n lo hi up l here at_lo below low high = without_is ss (slice_set ss at (from_to lo hi)) at e n (from_to lo hi ∷ []) up l here (without_first n e (from_to lo hi) at_lo below low high) (replaced-set ss at (from_to lo hi) l)

pub first_has : (ss : List Span) (at : ℕ) (e : Span) (n lo hi : ℤ) → IsDomain ss → at < length ss → e ≡ get_or ss at e → e.lo ≡ n → n <ℤ e.hi → lo ≡ n +ℤ pos 1 → hi ≡ e.hi → (m : ℤ) → has_value (slice_set ss at (from_to lo hi)) m ≡ (has_value ss m && not (int_eq m n))
first_has ss at e n lo hi up l here at_lo below low high =
    without_has ss (slice_set ss at (from_to lo hi)) at e n (from_to lo hi ∷ []) up l here (omega (arith, ints)) (without_first n e (from_to lo hi) at_lo below low high) (replaced-set ss at (from_to lo hi) l)

pub last_is : (ss : List Span) (at : ℕ) (e : Span) (n lo hi : ℤ) → IsDomain ss → at < length ss → e ≡ get_or ss at e → e.hi ≡ n → e.lo <ℤ n → lo ≡ e.lo → hi ≡ n -ℤ pos 1 → IsDomain (slice_set ss at (from_to lo hi))
last_is ss at e n lo hi up l here at_hi above low high = without_is ss (slice_set ss at (from_to lo hi)) at e n (from_to lo hi ∷ []) up l here (without_last n e (from_to lo hi) at_hi above low high) (replaced-set ss at (from_to lo hi) l)

pub last_has : (ss : List Span) (at : ℕ) (e : Span) (n lo hi : ℤ) → IsDomain ss → at < length ss → e ≡ get_or ss at e → e.hi ≡ n → e.lo <ℤ n → lo ≡ e.lo → hi ≡ n -ℤ pos 1 → (m : ℤ) → has_value (slice_set ss at (from_to lo hi)) m ≡ (has_value ss m && not (int_eq m n))
last_has ss at e n lo hi up l here at_hi above low high =
    without_has ss (slice_set ss at (from_to lo hi)) at e n (from_to lo hi ∷ []) up l here (omega (arith, ints)) (without_last n e (from_to lo hi) at_hi above low high) (replaced-set ss at (from_to lo hi) l)

split_is : (ss new : List Span) (at : ℕ) (t u : Span) → at < length ss → new ≡ insert ss (at + 1) u → slice_set new at t ≡ replaced ss at (t ∷ u ∷ [])
split_is ss new at t u l is =
    let next : at + 1 ≡ suc at = omega arith in
    ap (λ (x : List Span). slice_set x at t) (is ∙ ap (λ (k : ℕ). insert ss k u) next) ∙ replaced-insert ss at t u l

pub middle_is : (ss new : List Span) (at : ℕ) (e : Span) (n lo hi low high : ℤ) → IsDomain ss → at < length ss → e ≡ get_or ss at e → e.lo <ℤ n → n <ℤ e.hi → lo ≡ e.lo → hi ≡ n -ℤ pos 1 → low ≡ n +ℤ pos 1 → high ≡ e.hi → new ≡ insert ss (at + 1) (from_to low high) → IsDomain (slice_set new at (from_to lo hi))
middle_is ss new at e n lo hi low high up l here above below a b c d is =
    without_is ss (slice_set new at (from_to lo hi)) at e n (from_to lo hi ∷ from_to low high ∷ []) up l here (without_middle n e (from_to lo hi) (from_to low high) above below a b c d) (split_is ss new at (from_to lo hi) (from_to low high) l is)

pub middle_has : (ss new : List Span) (at : ℕ) (e : Span) (n lo hi low high : ℤ) → IsDomain ss → at < length ss → e ≡ get_or ss at e → e.lo <ℤ n → n <ℤ e.hi → lo ≡ e.lo → hi ≡ n -ℤ pos 1 → low ≡ n +ℤ pos 1 → high ≡ e.hi → new ≡ insert ss (at + 1) (from_to low high)
    → (m : ℤ) → has_value (slice_set new at (from_to lo hi)) m ≡ (has_value ss m && not (int_eq m n))
middle_has ss new at e n lo hi low high up l here above below a b c d is =
    without_has ss (slice_set new at (from_to lo hi)) at e n (from_to lo hi ∷ from_to low high ∷ []) up l here (omega (arith, ints)) (without_middle n e (from_to lo hi) (from_to low high) above below a b c d) (split_is ss new at (from_to lo hi) (from_to low high) l is)

absent : (ss : List Span) (n m : ℤ) → has_value ss n ≡ false → has_value ss m ≡ (has_value ss m && not (int_eq m n))
absent ss n m none = elim (int_eq_is m n) [
  | inl e ↦ let b : int_eq m n ≡ true = e.0 in let here : has_value ss m ≡ false = ap (has_value ss) e.1 ∙ none in grind (arith, here)
  | inr e ↦ let b : int_eq m n ≡ false = e.0 in grind (arith, b)
]

-- no span is left that could have n
pub none_behind : (ss : List Span) (at : ℕ) (n : ℤ) → length ss ≤ at → ((m : ℤ) → n ≤ℤ m → has_value (drop at ss) m ≡ has_value ss m) → (m : ℤ) → has_value ss m ≡ (has_value ss m && not (int_eq m n))
unfolding has_value
none_behind ss at n l same m = absent ss n m (sym (same n (omega (arith, ints))) ∙ ap (λ (x : List Span). has_value x n) (drop_all at ss l))

first_above : (least : ℤ) (s : Span) (ss : List Span) (n : ℤ) → AscendFrom least (s ∷ ss) → n <ℤ s.lo → has_value (s ∷ ss) n ≡ false
unfolding AscendFrom
first_above least s ss n up l = has_value-below s.lo (s ∷ ss) n (omega (arith, ints), up.1, up.2, up.3) l

-- the next span begins above n
pub next_above : (ss : List Span) (at : ℕ) (e : Span) (n : ℤ) → IsDomain ss → at < length ss → e ≡ get_or ss at e → n <ℤ e.lo → ((m : ℤ) → n ≤ℤ m → has_value (drop at ss) m ≡ has_value ss m) → (m : ℤ) → has_value ss m ≡ (has_value ss m && not (int_eq m n))
next_above ss at e n up l here above same m =
    let split : drop at ss ≡ e ∷ drop (at + 1) ss = subst (λ (x : Span). drop at ss ≡ x ∷ drop (at + 1) ss) (sym here) (drop_more ss at e l) in
    absent ss n m (sym (same n (omega (arith, ints))) ∙ (ap (λ (x : List Span). has_value x n) split ∙ first_above (neg_ℤ MAX_VALUE) e (drop (at + 1) ss) n (subst IsDomain split (AscendFrom-drop (neg_ℤ MAX_VALUE) at ss up)) above))

pub at_any : (ss : List Span) (at : ℕ) (d e : Span) → at < length ss → get_or ss at d ≡ get_or ss at e
at_any [] at d e l = absurd (omega arith)
at_any (s ∷ ss) zero d e l = refl
at_any (s ∷ ss) (suc at) d e l = at_any ss at d e (omega arith)

-- a number within a span of a domain is within the bounds
pub within_span : (ss : List Span) (at : ℕ) (e : Span) (n : ℤ) → IsDomain ss → at < length ss → e ≡ get_or ss at e → e.lo ≤ℤ n → n ≤ℤ e.hi → IsWithinBounds n
within_span ss at e n up l here low high =
    let span = AscendFrom-get_or (neg_ℤ MAX_VALUE) ss at e up l in
    let from : neg_ℤ MAX_VALUE ≤ℤ e.lo = subst (λ (x : Span). neg_ℤ MAX_VALUE ≤ℤ x.lo) (sym here) span.from in
    let top : e.hi ≤ℤ MAX_VALUE = subst (λ (x : Span). x.hi ≤ℤ MAX_VALUE) (sym here) span.bounded in
    (omega (arith, ints), omega (arith, ints))

-- numbers that are narrow enough for 64 bits
pub fits_narrow : (n : ℤ) → neg_ℤ (pos 4611686018427387904) ≤ℤ n → n ≤ℤ pos 4611686018427387904 → FitsSigned w64 n
fits_narrow (pos k) low high = record { sfits = omega (arith, ints, low, high) }
fits_narrow (negsuc k) low high = record { sfits = omega (arith, ints, low, high) }

-- ---- a number in a span, as the code has both

pub bounds_fit : (n : ℤ) → IsWithinBounds n → FitsSigned w64 n
bounds_fit n b = fits_narrow n (omega (arith, ints, b.0, b.1)) (omega (arith, ints, b.0, b.1))

next_fits : (n : ℤ) → IsWithinBounds n → FitsSigned w64 (n +ℤ pos 1)
next_fits n b = fits_narrow (n +ℤ pos 1) (omega (arith, ints, b.0, b.1)) (omega (arith, ints, b.0, b.1))

before_fits : (n : ℤ) → IsWithinBounds n → FitsSigned w64 (n -ℤ pos 1)
before_fits n b = fits_narrow (n -ℤ pos 1) (omega (arith, ints, b.0, b.1)) (omega (arith, ints, b.0, b.1))

pub next_wrapped_fits : (n : ℤ) → IsWithinBounds n → FitsSigned w64 (to_z w64 (of_z w64 n) +ℤ pos 1)
next_wrapped_fits n b = subst (λ (z : ℤ). FitsSigned w64 (z +ℤ pos 1)) (sym (to_z-of_z w64 n (bounds_fit n b))) (next_fits n b)

pub before_wrapped_fits : (n : ℤ) → IsWithinBounds n → FitsSigned w64 (to_z w64 (of_z w64 n) -ℤ pos 1)
before_wrapped_fits n b = subst (λ (z : ℤ). FitsSigned w64 (z -ℤ pos 1)) (sym (to_z-of_z w64 n (bounds_fit n b))) (before_fits n b)

pub next_back : (n : ℤ) → IsWithinBounds n → to_z w64 (of_z w64 (to_z w64 (of_z w64 n) +ℤ pos 1)) ≡ n +ℤ pos 1
next_back n b = ap (λ (z : ℤ). to_z w64 (of_z w64 (z +ℤ pos 1))) (to_z-of_z w64 n (bounds_fit n b)) ∙ to_z-of_z w64 (n +ℤ pos 1) (next_fits n b)

pub before_back : (n : ℤ) → IsWithinBounds n → to_z w64 (of_z w64 (to_z w64 (of_z w64 n) -ℤ pos 1)) ≡ n -ℤ pos 1
before_back n b = ap (λ (z : ℤ). to_z w64 (of_z w64 (z -ℤ pos 1))) (to_z-of_z w64 n (bounds_fit n b)) ∙ to_z-of_z w64 (n -ℤ pos 1) (before_fits n b)

pub same_numbers : (x y : ℤ) → FitsSigned w64 x → FitsSigned w64 y → of_z w64 x ≡ of_z w64 y → x ≡ y
same_numbers x y f g e = sym (to_z-of_z w64 x f) ∙ (ap (to_z w64) e ∙ to_z-of_z w64 y g)

both_ways : (x y : ℤ) → x ≤ℤ y → y ≤ℤ x → x ≡ y
both_ways x y h k = omega (arith, ints)

pub strictly : (x y : ℤ) → x ≤ℤ y → (of_z w64 x ≡ of_z w64 y → ⊥) → x <ℤ y
strictly x y h o = by_lt_z x y (λ b. b) (λ b. absurd (o (ap (of_z w64) (both_ways x y h b))))

-- n lies in the span e of a domain
pub record LiesIn (e : Span) (n : ℤ) : Type 0 where
  pub low : e.lo ≤ℤ n
  pub high : n ≤ℤ e.hi
  pub lo : IsWithinBounds e.lo
  pub hi : IsWithinBounds e.hi
  pub is : IsWithinBounds n

pub lies_in : (ss : List Span) (at : ℕ) (e : Span) (n : ℤ) → IsDomain ss → at < length ss → e ≡ get_or ss at e → ((o : Span) → (get_or ss at o).lo ≤ℤ n) → ((o : Span) → n ≤ℤ (get_or ss at o).hi) → LiesIn e n
lies_in ss at e n up l here from to =
    let low : e.lo ≤ℤ n = subst (λ (x : Span). x.lo ≤ℤ n) (sym here) (from e) in
    let high : n ≤ℤ e.hi = subst (λ (x : Span). n ≤ℤ x.hi) (sym here) (to e) in
    record {
      low = low;
      high = high;
      lo = within_span ss at e e.lo up l here (omega (arith, ints)) (omega (arith, ints));
      hi = within_span ss at e e.hi up l here (omega (arith, ints)) (omega (arith, ints));
      is = within_span ss at e n up l here low high;
    }

-- the span has n alone
pub alone : (e : Span) (n : ℤ) → LiesIn e n → of_z w64 e.lo ≡ of_z w64 e.hi → (e.lo ≡ n) × (e.hi ≡ n)
alone e n s bits =
    let same : e.lo ≡ e.hi = same_numbers e.lo e.hi (bounds_fit e.lo s.lo) (bounds_fit e.hi s.hi) bits in
    let low : e.lo ≤ℤ n = s.low in
    let high : n ≤ℤ e.hi = s.high in
    (omega (arith, ints), omega (arith, ints))

pub below_end : (e : Span) (n : ℤ) → LiesIn e n → (of_z w64 e.lo ≡ of_z w64 e.hi → ⊥) → e.lo ≡ n → n <ℤ e.hi
below_end e n s o at =
    let low : e.lo ≤ℤ n = s.low in
    let high : n ≤ℤ e.hi = s.high in
    subst (λ (z : ℤ). z <ℤ e.hi) at (strictly e.lo e.hi (omega (arith, ints)) o)

pub ends_within : (ss : List Span) (at : ℕ) (e : Span) → IsDomain ss → at < length ss → e ≡ get_or ss at e → IsWithinBounds e.lo × IsWithinBounds e.hi
ends_within ss at e up l here =
    let span = AscendFrom-get_or (neg_ℤ MAX_VALUE) ss at e up l in
    let ordered : e.lo ≤ℤ e.hi = subst (λ (x : Span). x.lo ≤ℤ x.hi) (sym here) span.ordered in
    (within_span ss at e e.lo up l here (omega (arith, ints)) ordered, within_span ss at e e.hi up l here ordered (omega (arith, ints)))
