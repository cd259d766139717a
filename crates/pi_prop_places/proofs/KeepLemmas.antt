-- Places of which each is left with what a rule keeps.
use Rattle.std.specs.Prelude.{◌≡◌, ◌↔◌, ℕ, ◌+◌, ◌<◌, ◌≤◌, Bool, IsTrue, List, length, ℤ, refl}
use Rattle.std.proofs.Common.{arith, sym, ◌∙◌, subst, inl, inr}
use Rattle.std.proofs.lemmas.Bool.{cases_eq, and_parts, and_from, false≢true}
use Rattle.pi_constraints.specs.declared.domain.Span.{Span}
use Rattle.pi_constraints.specs.Domain.{has_value}
use Rattle.pi_prop_spec.specs.Places.{domain_at}
use Rattle.pi_prop_places.specs.Changes.{IsCutAt, IsKeptAt, AreFiltered, AreEmptied}

-- ---- one place

-- a test that says what a rule keeps, of the values that are there
pub keep_cut : (k : ℕ) (test : ℤ → Bool) (Kept : ℤ → Type 0) (ds es : List (List Span)) → ((n : ℤ) → IsTrue (has_value (domain_at ds k) n) → IsTrue (test n) ↔ Kept n) → IsCutAt k test ds es → IsKeptAt k Kept ds es
keep_cut k test Kept ds es says f = record {
  count = f.count;
  here = λ n. let e = f.here n in (
    λ t. let p = and_parts (has_value (domain_at ds k) n) (test n) (sym e ∙ t) in (p.0, (says n p.0).0 p.1),
    λ p. e ∙ and_from (has_value (domain_at ds k) n) (test n) p.0 ((says n p.0).1 p.1),
  );
  others = f.others;
}

pub keep_like : (k : ℕ) (P Q : ℤ → Type 0) (ds es : List (List Span)) → ((n : ℤ) → IsTrue (has_value (domain_at ds k) n) → P n ↔ Q n) → IsKeptAt k P ds es → IsKeptAt k Q ds es
keep_like k P Q ds es says f = record {
  count = f.count;
  here = λ n. (λ t. let p = (f.here n).0 t in (p.0, (says n p.0).0 p.1), λ p. (f.here n).1 (p.0, (says n p.0).1 p.1));
  others = f.others;
}

-- where all values are kept nothing changes
pub keep_none : (k : ℕ) (Kept : ℤ → Type 0) (ds : List (List Span)) → ((n : ℤ) → IsTrue (has_value (domain_at ds k) n) → Kept n) → IsKeptAt k Kept ds ds
keep_none k Kept ds all = record { count = refl; here = λ n. (λ t. (t, all n t), λ p. p.0); others = λ j o. refl }

pub keep_then : (k : ℕ) (P Q : ℤ → Type 0) (ds es fs : List (List Span)) → IsKeptAt k P ds es → IsKeptAt k Q es fs → IsKeptAt k (λ n. P n × Q n) ds fs
keep_then k P Q ds es fs f g = record {
  count = g.count ∙ f.count;
  here = λ n. (λ t. let q = (g.here n).0 t in let p = (f.here n).0 q.0 in (p.0, (p.1, q.1)), λ p. (g.here n).1 ((f.here n).1 (p.0, p.1.0), p.1.1));
  others = λ j o. g.others j o ∙ f.others j o;
}

-- ---- one place after another

-- the places before `many` are filtered, and the others are as they were
pub record KeptBefore (many : ℕ) (Kept : ℕ → ℤ → Type 0) (old new : List (List Span)) : Type 0 where
  pub count : length new ≡ length old
  pub kept : (j : ℕ) (n : ℤ) → j < many → IsTrue (has_value (domain_at new j) n) ↔ (IsTrue (has_value (domain_at old j) n) × Kept j n)
  pub behind : (j : ℕ) → many ≤ j → domain_at new j ≡ domain_at old j

pub kept_none : (Kept : ℕ → ℤ → Type 0) (ds : List (List Span)) → KeptBefore 0 Kept ds ds
kept_none Kept ds = record { count = refl; kept = λ j n l. absurd (omega arith); behind = λ j l. refl }

still_below : (j i : ℕ) → j < i + 1 → (j ≡ i → ⊥) → j < i
still_below j i l o = omega arith

pub kept_more : (many : ℕ) (Kept : ℕ → ℤ → Type 0) (ds es fs : List (List Span)) → KeptBefore many Kept ds es → IsKeptAt many (Kept many) es fs → KeptBefore (many + 1) Kept ds fs
kept_more many Kept ds es fs f g = record {
  count = g.count ∙ f.count;
  kept = λ j n l. elim (cases_eq j many) [
    | inl e ↦
        let here : IsTrue (has_value (domain_at fs many) n) ↔ (IsTrue (has_value (domain_at ds many) n) × Kept many n) =
        subst (λ (d : List Span). IsTrue (has_value (domain_at fs many) n) ↔ (IsTrue (has_value d n) × Kept many n)) (f.behind many (omega arith)) (g.here n) in
        subst (λ (k : ℕ). IsTrue (has_value (domain_at fs k) n) ↔ (IsTrue (has_value (domain_at ds k) n) × Kept k n)) (sym e) here
    | inr o ↦ subst (λ (d : List Span). IsTrue (has_value d n) ↔ (IsTrue (has_value (domain_at ds j) n) × Kept j n)) (sym (g.others j o)) (f.kept j n (still_below j many l o))
  ];
  behind = λ j l. g.others j (λ e. omega arith) ∙ f.behind j (omega arith);
}

pub kept_all : (many : ℕ) (Kept : ℕ → ℤ → Type 0) (ds es : List (List Span)) → length ds ≤ many → KeptBefore many Kept ds es → AreFiltered Kept ds es
kept_all many Kept ds es l f = record { count = f.count; kept = λ k n m. f.kept k n (omega arith) }

-- ---- all places

pub filtered_like : (P Q : ℕ → ℤ → Type 0) (ds es : List (List Span)) → ((k : ℕ) (n : ℤ) → k < length ds → IsTrue (has_value (domain_at ds k) n) → P k n ↔ Q k n) → AreFiltered P ds es → AreFiltered Q ds es
filtered_like P Q ds es says f = record {
  count = f.count;
  kept = λ k n l. (λ t. let p = (f.kept k n l).0 t in (p.0, (says k n l p.0).0 p.1), λ p. (f.kept k n l).1 (p.0, (says k n l p.0).1 p.1));
}

pub filtered_then : (P Q : ℕ → ℤ → Type 0) (ds es fs : List (List Span)) → AreFiltered P ds es → AreFiltered Q es fs → AreFiltered (λ k n. P k n × Q k n) ds fs
filtered_then P Q ds es fs f g = record {
  count = g.count ∙ f.count;
  kept = λ k n l. let m : k < length es = omega (arith, f.count) in (
    λ t. let q = (g.kept k n m).0 t in let p = (f.kept k n l).0 q.0 in (p.0, (p.1, q.1)),
    λ p. (g.kept k n m).1 ((f.kept k n l).1 (p.0, p.1.0), p.1.1),
  );
}

-- where a rule keeps nothing, and nothing is left
pub filtered_out : (Kept : ℕ → ℤ → Type 0) (ds es : List (List Span)) → ((k : ℕ) (n : ℤ) → Kept k n → ⊥) → AreEmptied ds es → AreFiltered Kept ds es
filtered_out Kept ds es none f = record {
  count = f.count;
  kept = λ k n l. (λ t. absurd (false≢true (sym (f.none k n) ∙ t)), λ p. absurd (none k n p.1));
}
