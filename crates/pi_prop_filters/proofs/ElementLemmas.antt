-- What the parts of the filter of `element` leave is what its rule keeps.
use Rattle.std.specs.Prelude.{◌≡◌, ◌↔◌, ℕ, suc, ◌≤◌, ◌+◌, Bool, IsTrue, List, length, ℤ, pos, refl}
use Rattle.std.proofs.Common.{arith, sym, ◌∙◌, subst, inl, inr}
use Rattle.std.proofs.lemmas.Bool.{cases_eq, and_parts, and_from}
use Rattle.std.proofs.lemmas.Int.{ints}
use Rattle.pi_constraints.specs.declared.domain.Span.{Span}
use Rattle.pi_constraints.specs.Domain.{has_value}
use Rattle.pi_prop_spec.specs.Ends.{IsFixedTo}
use Rattle.pi_prop_spec.specs.Places.{domain_at}
use Rattle.pi_prop_spec.specs.Rules.{ElementKeeps}
use Rattle.pi_prop_places.specs.Changes.{IsCutAt, AreFiltered}
use Rattle.pi_prop_places.proofs.KeepLemmas.{filtered_like, filtered_then}
use Rattle.pi_prop_filters.specs.Choices.{AreNumbers, AreValues, ItemKeeps}

-- one place is left with what passes a test, and the others are kept as they are
pub cut_filtered : (k : ℕ) (test : ℤ → Bool) (ds es : List (List Span)) → IsCutAt k test ds es → AreFiltered (λ j n. j ≡ k → IsTrue (test n)) ds es
cut_filtered k test ds es f = record {
  count = f.count;
  kept = λ j n l. elim (cases_eq j k) [
    | inl e ↦
        let split = f.here n in
        subst (λ (i : ℕ). IsTrue (has_value (domain_at es i) n) ↔ (IsTrue (has_value (domain_at ds i) n) × (i ≡ k → IsTrue (test n)))) (sym e) (
          λ t. let p = and_parts (has_value (domain_at ds k) n) (test n) (sym split ∙ t) in (p.0, λ q. p.1),
          λ p. split ∙ and_from (has_value (domain_at ds k) n) (test n) p.0 (p.1 refl),
        )
    | inr o ↦ (
      λ t. (subst (λ (d : List Span). IsTrue (has_value d n)) (f.others j o) t, λ q. absurd (o q)),
      λ p. subst (λ (d : List Span). IsTrue (has_value d n)) (sym (f.others j o)) p.0,
    )
  ];
}

-- where all values are kept nothing changes
pub filtered_none : (Kept : ℕ → ℤ → Type 0) (ds : List (List Span)) → ((k : ℕ) (n : ℤ) → Kept k n) → AreFiltered Kept ds ds
filtered_none Kept ds all = record { count = refl; kept = λ k n l. (λ t. (t, all k n), λ p. p.0) }

same_number : (i k : ℕ) → pos i ≡ pos k → i ≡ k
same_number i k e = omega (arith, ints)

-- the item to whose number the index is fixed
pub item_filtered : (count item : ℕ) (ds es : List (List Span)) (value : List Span) → IsCutAt item (λ n. has_value value n) ds es → value ≡ domain_at ds (suc count)
    → IsFixedTo (domain_at ds 0) (pos item) → 1 ≤ item → item ≤ count → AreFiltered (ItemKeeps count ds) ds es
item_filtered count item ds es value f e fixed low high = filtered_like (λ j n. j ≡ item → IsTrue (has_value value n)) (ItemKeeps count ds) ds es
    (λ k n l h. (
      λ p a b q. subst (λ (d : List Span). IsTrue (has_value d n)) e (p (same_number k item (sym q.0 ∙ fixed.0))),
      λ p q. subst (λ (d : List Span). IsTrue (has_value d n)) (sym e) (p (omega (arith, q)) (omega (arith, q)) (subst (λ (j : ℕ). IsFixedTo (domain_at ds 0) (pos j)) (sym q) fixed)),
    )) (cut_filtered item (λ n. has_value value n) ds es f)

pub element_filtered : (count : ℕ) (ds es fs gs : List (List Span)) (numbers values first last : List Span) → length ds ≡ count + 2
    → AreNumbers count (count + 1) ds numbers → AreValues count (count + 1) ds values
    → ((n : ℤ) → has_value first n ≡ has_value numbers n) → ((n : ℤ) → has_value last n ≡ has_value values n)
    → AreFiltered (ItemKeeps count ds) ds es → IsCutAt 0 (λ n. has_value first n) es fs → IsCutAt (count + 1) (λ n. has_value last n) fs gs
    → AreFiltered (ElementKeeps count ds) ds gs
element_filtered count ds es fs gs numbers values first last many isn isv samen samev item f g =
    let index = cut_filtered 0 (λ n. has_value first n) es fs f in
    let value = cut_filtered (count + 1) (λ n. has_value last n) fs gs g in
    let Parts : ℕ → ℤ → Type 0 = λ k n. (ItemKeeps count ds k n × (k ≡ 0 → IsTrue (has_value first n))) × (k ≡ count + 1 → IsTrue (has_value last n)) in
    let at_end : suc count ≡ count + 1 = omega arith in
    filtered_like Parts (ElementKeeps count ds) ds gs
    (λ k n l h. (
      λ p. record {
        index = λ q. let i = (isn.numbers n).0 (sym (samen n) ∙ p.0.1 q) in (i.0, i.1, omega (arith, i.2), i.3, i.4.1);
        item = p.0.0;
        value = λ q.
            let here : IsTrue (has_value (domain_at ds (suc count)) n) = subst (λ (j : ℕ). IsTrue (has_value (domain_at ds j) n)) q h in
            let i = (isv.values n here).0 (sym (samev n) ∙ p.1 (q ∙ at_end)) in
            (i.0, i.1, omega (arith, i.2), i.3, i.4);
      },
      λ p. (
        (
          p.item,
          λ q.
              let i = p.index q in
              let here : IsTrue (has_value (domain_at ds 0) n) = subst (λ (j : ℕ). IsTrue (has_value (domain_at ds j) n)) q h in
              samen n ∙ (isn.numbers n).1 (i.0, i.1, omega (arith, i.2), i.3, (subst (λ (z : ℤ). IsTrue (has_value (domain_at ds 0) z)) i.3 here, i.4)),
        ),
        λ q.
            let here : IsTrue (has_value (domain_at ds (suc count)) n) = subst (λ (j : ℕ). IsTrue (has_value (domain_at ds j) n)) (q ∙ sym at_end) h in
            let i = p.value (q ∙ sym at_end) in
            samev n ∙ (isv.values n here).1 (i.0, i.1, omega (arith, i.2), i.3, i.4),
      ),
    ))
    (filtered_then (λ k n. ItemKeeps count ds k n × (k ≡ 0 → IsTrue (has_value first n))) (λ k n. k ≡ count + 1 → IsTrue (has_value last n)) ds fs gs
    (filtered_then (ItemKeeps count ds) (λ k n. k ≡ 0 → IsTrue (has_value first n)) ds es fs item index) value)
