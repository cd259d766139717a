-- Domains at places that are cut one after another.
use Rattle.std.specs.Prelude.{◌≡◌, ◌↔◌, ℕ, zero, suc, ◌+◌, ◌<◌, ◌≤◌, Bool, true, false, ◌&&◌, IsTrue, List, [], ◌∷◌, length, ℤ, refl}
use Rattle.std.proofs.Common.{arith, sym, ◌∙◌, ap, subst, inl, inr}
use Rattle.std.proofs.lemmas.Bool.{cases_eq, and_parts, and_from}
use Rattle.pi_constraints.specs.declared.domain.Span.{Span}
use Rattle.pi_constraints.specs.Domain.{has_value}
use Rattle.pi_prop_spec.specs.Places.{domain_at}
use Rattle.pi_prop_places.specs.Changes.{IsCutAt, AreCutFrom, AreFilteredFrom}

and_true : (b : Bool) → b ≡ (b && true)
and_true true = refl
and_true false = refl

and_assoc : (a b c : Bool) → ((a && b) && c) ≡ (a && (b && c))
and_assoc true b c = refl
and_assoc false b c = refl

past : (ds : List (List Span)) (k : ℕ) → length ds ≤ k → domain_at ds k ≡ []
past [] k l = refl
past (d ∷ ds) zero l = absurd (omega arith)
past (d ∷ ds) (suc k) l = past ds k (omega arith)

-- where there is no such place, nothing changes
pub cut_past : (ds : List (List Span)) (k : ℕ) (test : ℤ → Bool) → length ds ≤ k → IsCutAt k test ds ds
unfolding has_value
cut_past ds k test l =
    let none : domain_at ds k ≡ [] = past ds k l in
    record {
      count = refl;
      here = λ n. let empty : has_value (domain_at ds k) n ≡ false = ap (λ (x : List Span). has_value x n) none in empty ∙ ap (λ (b : Bool). b && test n) (sym empty);
      others = λ j o. refl;
    }

pub cut_none : (ds : List (List Span)) (k : ℕ) → IsCutAt k (λ n. true) ds ds
cut_none ds k = record { count = refl; here = λ n. and_true (has_value (domain_at ds k) n); others = λ j o. refl }

pub cut_then : (ds es fs : List (List Span)) (k : ℕ) (p q : ℤ → Bool) → IsCutAt k p ds es → IsCutAt k q es fs → IsCutAt k (λ n. p n && q n) ds fs
cut_then ds es fs k p q f g = record {
  count = g.count ∙ f.count;
  here = λ n. g.here n ∙ (ap (λ (b : Bool). b && q n) (f.here n) ∙ and_assoc (has_value (domain_at ds k) n) (p n) (q n));
  others = λ j o. g.others j o ∙ f.others j o;
}

pub cut_like : (ds es : List (List Span)) (k : ℕ) (p q : ℤ → Bool) → ((n : ℤ) → p n ≡ q n) → IsCutAt k p ds es → IsCutAt k q ds es
cut_like ds es k p q same f = record {
  count = f.count;
  here = λ n. f.here n ∙ ap (λ (b : Bool). has_value (domain_at ds k) n && b) (same n);
  others = f.others;
}

-- ---- from a place on

still_below : (j i : ℕ) → j < i + 1 → (j ≡ i → ⊥) → j < i
still_below j i l o = omega arith

pub cut_from_more : (first i : ℕ) (test : ℕ → ℤ → Bool) (ds es fs : List (List Span)) → AreCutFrom first i test ds es → IsCutAt (first + i) (test i) es fs → AreCutFrom first (i + 1) test ds fs
cut_from_more first i test ds es fs f g = record {
  count = g.count ∙ f.count;
  before = λ j l. g.others j (λ e. omega arith) ∙ f.before j l;
  cut = λ j n l. elim (cases_eq j i) [
    | inl e ↦
        let here : has_value (domain_at fs (first + i)) n ≡ (has_value (domain_at ds (first + i)) n && test i n) =
        g.here n ∙ ap (λ (x : List Span). has_value x n && test i n) (f.behind i (omega arith)) in
        subst (λ (k : ℕ). has_value (domain_at fs (first + k)) n ≡ (has_value (domain_at ds (first + k)) n && test k n)) (sym e) here
    | inr o ↦ ap (λ (x : List Span). has_value x n) (g.others (first + j) (λ e. o (omega arith))) ∙ f.cut j n (still_below j i l o)
  ];
  behind = λ j l. g.others (first + j) (λ e. omega arith) ∙ f.behind j (omega arith);
}

pub cut_from_like : (first many : ℕ) (p q : ℕ → ℤ → Bool) (ds es : List (List Span)) → ((j : ℕ) (n : ℤ) → j < many → p j n ≡ q j n) → AreCutFrom first many p ds es → AreCutFrom first many q ds es
cut_from_like first many p q ds es same f = record {
  count = f.count;
  before = f.before;
  cut = λ j n l. f.cut j n l ∙ ap (λ (b : Bool). has_value (domain_at ds (first + j)) n && b) (same j n l);
  behind = f.behind;
}

-- where nothing is asked nothing changes
pub cut_from_all : (first many : ℕ) (p : ℕ → ℤ → Bool) (ds : List (List Span)) → ((j : ℕ) (n : ℤ) → true ≡ p j n) → AreCutFrom first many p ds ds
cut_from_all first many p ds all = record {
  count = refl;
  before = λ j l. refl;
  cut = λ j n l. and_true (has_value (domain_at ds (first + j)) n) ∙ ap (λ (b : Bool). has_value (domain_at ds (first + j)) n && b) (all j n);
  behind = λ j l. refl;
}

-- where something is asked of one place alone
pub cut_from_one : (first i many : ℕ) (p : ℕ → ℤ → Bool) (ds es : List (List Span)) → i < many → ((j : ℕ) (n : ℤ) → (j ≡ i → ⊥) → true ≡ p j n) → IsCutAt (first + i) (p i) ds es → AreCutFrom first many p ds es
cut_from_one first i many p ds es m none f = record {
  count = f.count;
  before = λ j l. f.others j (λ e. omega arith);
  cut = λ j n l. elim (cases_eq j i) [
    | inl e ↦ subst (λ (k : ℕ). has_value (domain_at es (first + k)) n ≡ (has_value (domain_at ds (first + k)) n && p k n)) (sym e) (f.here n)
    | inr o ↦ ap (λ (x : List Span). has_value x n) (f.others (first + j) (λ e. o (omega arith)))
        ∙ (and_true (has_value (domain_at ds (first + j)) n) ∙ ap (λ (b : Bool). has_value (domain_at ds (first + j)) n && b) (none j n o))
  ];
  behind = λ j l. f.others (first + j) (λ e. omega arith);
}

-- tests that say what a rule keeps, of the values that are there
pub filtered_from : (first many : ℕ) (test : ℕ → ℤ → Bool) (Kept : ℕ → ℤ → Type 0) (ds es : List (List Span)) → length ds ≡ first + many → AreCutFrom first many test ds es
    → ((j : ℕ) (n : ℤ) → j < many → IsTrue (has_value (domain_at ds (first + j)) n) → IsTrue (test j n) ↔ Kept j n) → AreFilteredFrom first Kept ds es
filtered_from first many test Kept ds es c f says = record {
  count = f.count;
  before = f.before;
  kept = λ j n l. let below : j < many = omega arith in let e = f.cut j n below in (
    λ t. let p = and_parts (has_value (domain_at ds (first + j)) n) (test j n) (sym e ∙ t) in (p.0, (says j n below p.0).0 p.1),
    λ p. e ∙ and_from (has_value (domain_at ds (first + j)) n) (test j n) p.0 ((says j n below p.0).1 p.1),
  );
}

pub cut_whole : (first i many : ℕ) (test : ℕ → ℤ → Bool) (ds es : List (List Span)) → i ≤ many → many ≤ i → AreCutFrom first i test ds es → AreCutFrom first many test ds es
cut_whole first i many test ds es l m f = subst (λ (k : ℕ). AreCutFrom first k test ds es) (omega arith) f
