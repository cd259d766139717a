-- All places, one after another.
use Rattle.std.specs.Prelude.{◌≡◌, ◌≢◌, ℕ, ◌+◌, ◌<◌, ◌≤◌, Bool, false, ◌&&◌, List, [], length, ℤ, refl}
use Rattle.std.proofs.Common.{arith, sym, ◌∙◌, ap, subst, inl, inr}
use Rattle.std.proofs.lemmas.Bool.{cases_eq, cases_lt}
use Rattle.std.proofs.lemmas.List.{get_or_past}
use Rattle.pi_constraints.specs.declared.domain.Span.{Span}
use Rattle.pi_constraints.specs.Domain.{has_value}
use Rattle.pi_prop_spec.specs.Places.{domain_at}
use Rattle.pi_prop_places.specs.Changes.{IsCutAt, AreEmptied}

-- the first so many have values
abbrev pub HaveValuesBefore : List (List Span) → ℕ → Type 0
HaveValuesBefore ds many = (k : ℕ) → k < many → domain_at ds k ≢ []

pub one_more : (ds : List (List Span)) (i : ℕ) → (domain_at ds i ≢ []) → HaveValuesBefore ds i → HaveValuesBefore ds (i + 1)
one_more ds i some f k l = elim (cases_eq k i) [ inl e ↦ subst (λ (j : ℕ). domain_at ds j ≢ []) (sym e) some | inr o ↦ f k (omega arith) ]

-- the first so many are emptied
pub record EmptiedBefore (many : ℕ) (old new : List (List Span)) : Type 0 where
  pub count : length new ≡ length old
  pub none : (k : ℕ) (n : ℤ) → k < many → has_value (domain_at new k) n ≡ false

pub emptied_none : (ds : List (List Span)) → EmptiedBefore 0 ds ds
emptied_none ds = record { count = refl; none = λ k n l. absurd (omega arith) }

no_value : (b c : Bool) → c ≡ false → (b && c) ≡ false
no_value b c e = grind (arith, e)

pub emptied_more : (i : ℕ) (none : List Span) (ds es fs : List (List Span)) → none ≡ [] → EmptiedBefore i ds es → IsCutAt i (λ n. has_value none n) es fs → EmptiedBefore (i + 1) ds fs
unfolding has_value
emptied_more i none ds es fs e f g = record {
  count = g.count ∙ f.count;
  none = λ k n l. elim (cases_eq k i) [
    | inl s ↦
        let empty : has_value none n ≡ false = ap (λ (x : List Span). has_value x n) e in
        subst (λ (j : ℕ). has_value (domain_at fs j) n ≡ false) (sym s) (g.here n ∙ no_value (has_value (domain_at es i) n) (has_value none n) empty)
    | inr o ↦ ap (λ (x : List Span). has_value x n) (g.others k o) ∙ f.none k n (omega arith)
  ];
}

pub emptied_all : (many : ℕ) (ds es : List (List Span)) → length ds ≤ many → EmptiedBefore many ds es → AreEmptied ds es
unfolding has_value
emptied_all many ds es l f = record {
  count = f.count;
  none = λ k n. elim (cases_lt k many) [
    | inl b ↦ f.none k n b
    | inr b ↦ ap (λ (x : List Span). has_value x n) (get_or_past es k [] (omega (arith, f.count)))
  ];
}
