-- The filter of a reified sum: it is monotone, loses no solution, and is decisive.
use Rattle.std.specs.Prelude.{◌≡◌, ◌⊎◌, ℕ, zero, suc, ◌<◌, IsTrue, List, ◌∷◌, length, ℤ, pos, ◌+ℤ◌, refl}
use Rattle.std.proofs.Common.{arith, sym, ◌∙◌, ap, subst, inl, inr}
use Rattle.std.proofs.lemmas.Int.{ints}
use Rattle.pi_constraints.specs.declared.constraint.Rel.{Rel}
use Rattle.pi_constraints.specs.declared.domain.Span.{Span}
use Rattle.pi_constraints.specs.Domain.{has_value}
use Rattle.pi_prop_spec.specs.Ends.{IsFixedTo}
use Rattle.pi_prop_spec.specs.Places.{domain_at}
use Rattle.pi_prop_spec.specs.Sums.{SumKeeps, OppositeKeeps}
use Rattle.pi_prop_spec.specs.Reified.{ReifiedKeeps}
use Rattle.pi_prop_spec.specs.Solutions.{sum_of, Stands}
use Rattle.pi_prop_spec.proofs.EndLemmas.{EndsWithin, only_value, fixed_to_within}
use Rattle.pi_prop_spec.proofs.PlaceLemmas.{Given, Decided, Narrowed, given_between, given_only, narrowed_ends}
use Rattle.pi_prop_spec.proofs.SumLemmas.{variable_at}
use Rattle.pi_prop_spec.proofs.SumLaws.{HasBetween, HasFixed, HasWithin, sum-solution, opposite-solution, sum-decided, opposite-decided, sum-monotone, opposite-monotone}

-- the truth has the value t, and then the terms have theirs
unfoldable pub values_from : ℤ → (ℕ → ℤ) → List (ℤ × ℕ) → ℕ → ℤ
values_from t a ts zero = t
values_from t a ts (suc k) = a (variable_at ts k)

terms_between : (t : ℤ) (a : ℕ → ℤ) (ts : List (ℤ × ℕ)) (d : List Span) (ds : List (List Span)) → Given (values_from t a ts) (d ∷ ds) → length ds ≡ length ts → HasBetween a ts ds
unfolding values_from
terms_between t a ts d ds g c = record { count = c; all = λ k l. given_between (values_from t a ts) (d ∷ ds) (suc k) g (omega (arith, c)) }

not_both_truths : (t : ℤ) → t ≡ pos 1 → t ≡ pos 0 → ⊥
not_both_truths t e f = omega (arith, ints)

pub reified-keeps_solutions : (rel : Rel) (t : ℤ) (a : ℕ → ℤ) (ts : List (ℤ × ℕ)) (m : ℤ) (d : List Span) (ds : List (List Span)) (k : ℕ) (n : ℤ) → Given (values_from t a ts) (d ∷ ds) → length ds ≡ length ts → k < suc (length ts) → n ≡ values_from t a ts k
    → ((t ≡ pos 1) × Stands rel (m +ℤ sum_of a ts)) ⊎ ((t ≡ pos 0) × (Stands rel (m +ℤ sum_of a ts) → ⊥)) → ReifiedKeeps rel ts m (d ∷ ds) k n
unfolding values_from
reified-keeps_solutions rel t a ts m d ds k n g c l e s =
    let h : HasBetween a ts ds = terms_between t a ts d ds g c in
    let there : IsTrue (has_value d t) = g.has 0 (omega arith) in
    let only : (z : ℤ) → IsFixedTo d z → t ≡ z = λ z f. given_only (values_from t a ts) (d ∷ ds) 0 z g (omega arith) f in
    let value : (j : ℕ) → j < length ts → IsTrue (has_value (domain_at ds j) (a (variable_at ts j))) = λ j b. g.has (suc j) (omega (arith, c)) in
    record {
      truth = λ at. elim s [
        | inl y ↦ inl ((e ∙ (ap (values_from t a ts) at ∙ y.0)), λ j b. (a (variable_at ts j), value j (omega (arith, c)), sum-solution rel a ts m ds j h (omega (arith, c)) y.1))
        | inr f ↦ inr ((e ∙ (ap (values_from t a ts) at ∙ f.0)), λ j b. (a (variable_at ts j), value j (omega (arith, c)), opposite-solution rel a ts m ds j h (omega (arith, c)) f.1))
      ];
      holds = λ j at fixed. elim s [
        | inl y ↦ subst (λ (z : ℤ). SumKeeps rel ts m ds j z) (sym (e ∙ ap (values_from t a ts) at)) (sum-solution rel a ts m ds j h (omega arith) y.1)
        | inr f ↦ absurd (not_both_truths t (only (pos 1) fixed) f.0)
      ];
      fails = λ j at fixed. elim s [
        | inl y ↦ absurd (not_both_truths t y.0 (only (pos 0) fixed))
        | inr f ↦ subst (λ (z : ℤ). OppositeKeeps rel ts m ds j z) (sym (e ∙ ap (values_from t a ts) at)) (opposite-solution rel a ts m ds j h (omega arith) f.1)
      ];
    }

terms_fixed : (t : ℤ) (a : ℕ → ℤ) (ts : List (ℤ × ℕ)) (d : List Span) (ds : List (List Span)) → Decided (values_from t a ts) (d ∷ ds) → length ds ≡ length ts → HasFixed a ts ds
unfolding values_from
terms_fixed t a ts d ds g c = record { count = c; all = λ k l. g.fixed (suc k) (omega (arith, c)) }

pub reified-decides : (rel : Rel) (t : ℤ) (a : ℕ → ℤ) (ts : List (ℤ × ℕ)) (m : ℤ) (d : List Span) (ds : List (List Span)) → Decided (values_from t a ts) (d ∷ ds) → length ds ≡ length ts → 0 < length ts → ReifiedKeeps rel ts m (d ∷ ds) 0 t
    → ((t ≡ pos 1) × Stands rel (m +ℤ sum_of a ts)) ⊎ ((t ≡ pos 0) × (Stands rel (m +ℤ sum_of a ts) → ⊥))
unfolding values_from
reified-decides rel t a ts m d ds g c some h =
    let f : HasFixed a ts ds = terms_fixed t a ts d ds g c in
    let only : (n : ℤ) → IsTrue (has_value (domain_at ds 0) n) → n ≡ a (variable_at ts 0) = λ n b. only_value (domain_at ds 0) (a (variable_at ts 0)) n (g.given.domains 1 (omega (arith, c))) (g.fixed 1 (omega (arith, c))) b in
    elim (h.truth refl) [
      | inl y ↦ let w = y.1 0 (omega (arith, c)) in inl (y.0, sum-decided rel a ts m ds 0 f some (subst (λ (z : ℤ). SumKeeps rel ts m ds 0 z) (only w.0 w.1) w.2))
      | inr y ↦ let w = y.1 0 (omega (arith, c)) in inr (y.0, opposite-decided rel a ts m ds 0 f some (subst (λ (z : ℤ). OppositeKeeps rel ts m ds 0 z) (only w.0 w.1) w.2))
    ]

terms_within : (ts : List (ℤ × ℕ)) (d e : List Span) (ds es : List (List Span)) → Narrowed (d ∷ ds) (e ∷ es) → length ds ≡ length ts → HasWithin ts ds es
terms_within ts d e ds es w c = record {
  first = c;
  second = omega (arith, w.count);
  all = λ k l. narrowed_ends (d ∷ ds) (e ∷ es) (suc k) w (omega (arith, c));
}

pub reified-is_monotone : (rel : Rel) (ts : List (ℤ × ℕ)) (m : ℤ) (d e : List Span) (ds es : List (List Span)) (k : ℕ) (n : ℤ) → Narrowed (d ∷ ds) (e ∷ es) → length ds ≡ length ts → ReifiedKeeps rel ts m (e ∷ es) k n → ReifiedKeeps rel ts m (d ∷ ds) k n
reified-is_monotone rel ts m d e ds es k n w c h =
    let inner : HasWithin ts ds es = terms_within ts d e ds es w c in
    let count : length es ≡ length ds = omega (arith, w.count) in
    let truth : EndsWithin d e = narrowed_ends (d ∷ ds) (e ∷ es) 0 w (omega arith) in
    record {
      truth = λ at. elim (h.truth at) [
        | inl y ↦ inl (y.0, λ j b. let f = y.1 j (omega (arith, count)) in (f.0, w.sub (suc j) f.0 (omega arith) f.1, sum-monotone rel ts m ds es j f.0 inner f.2))
        | inr y ↦ inr (y.0, λ j b. let f = y.1 j (omega (arith, count)) in (f.0, w.sub (suc j) f.0 (omega arith) f.1, opposite-monotone rel ts m ds es j f.0 inner f.2))
      ];
      holds = λ j at fixed. sum-monotone rel ts m ds es j n inner (h.holds j at (fixed_to_within d e (pos 1) truth fixed));
      fails = λ j at fixed. opposite-monotone rel ts m ds es j n inner (h.fails j at (fixed_to_within d e (pos 0) truth fixed));
    }
