-- The filter of `element`: it is monotone, loses no solution, and is decisive.
use Rattle.std.specs.Prelude.{◌≡◌, ℕ, zero, suc, ◌<◌, ◌≤◌, IsTrue, List, length, ℤ, pos, refl}
use Rattle.std.proofs.Common.{arith, sym, ◌∙◌, ap, subst}
use Rattle.std.proofs.lemmas.Int.{ints}
use Rattle.pi_constraints.specs.declared.domain.Span.{Span}
use Rattle.pi_constraints.specs.Domain.{has_value}
use Rattle.pi_prop_spec.specs.Places.{domain_at}
use Rattle.pi_prop_spec.specs.Rules.{ShareAValue, ElementKeeps}
use Rattle.pi_prop_spec.proofs.EndLemmas.{fixed_to_within}
use Rattle.pi_prop_spec.proofs.PlaceLemmas.{Given, Decided, Narrowed, given_only, decided_only, narrowed_ends}

same_number : (i k : ℕ) → pos i ≡ pos k → i ≡ k
same_number i k e = omega (arith, ints)

pub elements-keep_solutions : (count : ℕ) (ds : List (List Span)) (v : ℕ → ℤ) (k : ℕ) (n : ℤ) (i : ℕ) → Given v ds → length ds ≡ suc (suc count) → i < count → v 0 ≡ pos (suc i) → v (suc i) ≡ v (suc count) → n ≡ v k → ElementKeeps count ds k n
elements-keep_solutions count ds v k n i g c l at_index same e =
    let has : (j : ℕ) (m : ℤ) → j < length ds → v j ≡ m → IsTrue (has_value (domain_at ds j) m) = λ j m b q. subst (λ (z : ℤ). IsTrue (has_value (domain_at ds j) z)) q (g.has j b) in
    record {
      index = λ at. (suc i, omega arith, omega arith, e ∙ (ap v at ∙ at_index), (v (suc i), has (suc i) (v (suc i)) (omega arith) refl, has (suc count) (v (suc i)) (omega arith) (sym same)));
      item = λ low high fixed.
          let number : pos (suc i) ≡ pos k = sym at_index ∙ given_only v ds 0 (pos k) g (omega arith) fixed in
          let place : k ≡ suc i = sym (same_number (suc i) k number) in
          has (suc count) n (omega arith) (sym (e ∙ (ap v place ∙ same)));
      value = λ at. (suc i, omega arith, omega arith, has 0 (pos (suc i)) (omega arith) at_index, has (suc i) n (omega arith) (sym (e ∙ (ap v at ∙ sym same))));
    }

decided_number : (count : ℕ) (ds : List (List Span)) (v : ℕ → ℤ) (i : ℕ) → Decided v ds → length ds ≡ suc (suc count) → 1 ≤ i → i ≤ count → v 0 ≡ pos i → ShareAValue (domain_at ds i) (domain_at ds (suc count))
    → (j : ℕ) × (j < count) × (v 0 ≡ pos (suc j)) × (v (suc j) ≡ v (suc count))
decided_number count ds v zero d c low high at_index share = absurd (omega arith)
decided_number count ds v (suc j) d c low high at_index share =
    (j, omega arith, at_index, sym (decided_only v ds (suc j) share.0 d (omega arith) share.1) ∙ decided_only v ds (suc count) share.0 d (omega arith) share.2)

pub elements-decide : (count : ℕ) (ds : List (List Span)) (v : ℕ → ℤ) → Decided v ds → length ds ≡ suc (suc count) → ElementKeeps count ds 0 (v 0) → (j : ℕ) × (j < count) × (v 0 ≡ pos (suc j)) × (v (suc j) ≡ v (suc count))
elements-decide count ds v d c h = let f = h.index refl in decided_number count ds v f.0 d c f.1 f.2 f.3 f.4

pub elements-are_monotone : (count : ℕ) (ds es : List (List Span)) (k : ℕ) (n : ℤ) → Narrowed ds es → length ds ≡ suc (suc count) → ElementKeeps count es k n → ElementKeeps count ds k n
elements-are_monotone count ds es k n w c h = record {
  index = λ at. let f = h.index at in (f.0, f.1, f.2, f.3, (f.4.0, w.sub f.0 f.4.0 (omega (arith, f.2)) f.4.1, w.sub (suc count) f.4.0 (omega arith) f.4.2));
  item = λ low high fixed. w.sub (suc count) n (omega arith) (h.item low high (fixed_to_within (domain_at ds 0) (domain_at es 0) (pos k) (narrowed_ends ds es 0 w (omega arith)) fixed));
  value = λ at. let f = h.value at in (f.0, f.1, f.2, w.sub 0 (pos f.0) (omega arith) f.3, w.sub f.0 n (omega (arith, f.2)) f.4);
}
