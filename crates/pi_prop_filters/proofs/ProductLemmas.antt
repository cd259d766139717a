-- What cuts by ends leave of the places of a product.
use Rattle.std.specs.Prelude.{◌≡◌, ◌≢◌, ◌↔◌, ℕ, ◌&&◌, IsTrue, List, length, ℤ, pos, ◌*ℤ◌, ◌≤ℤ◌, int_le, refl}
use Rattle.std.proofs.Common.{arith, sym, ◌∙◌, subst}
use Rattle.std.proofs.lemmas.Bool.{and_parts, and_from}
use Rattle.pi_constraints.specs.declared.domain.Span.{Span}
use Rattle.pi_prop_spec.specs.Ends.{least_of, greatest_of, IsBetween}
use Rattle.pi_prop_spec.specs.Places.{domain_at}
use Rattle.pi_prop_spec.specs.Rules.{least_corner, greatest_corner, FactorKeeps, ProductKeeps}
use Rattle.pi_prop_places.specs.Changes.{IsCutAt, IsKeptAt, AreFiltered}
use Rattle.pi_prop_places.proofs.RoundLemmas.{le_test, test_le}
use Rattle.pi_prop_places.proofs.KeepLemmas.{keep_cut, keep_like, KeptBefore, kept_none, kept_more, kept_all}
use Rattle.pi_prop_filters.specs.declared.corners.Ends.{Ends}
use Rattle.pi_prop_filters.specs.Factors.{FactorStays}

-- the ends of a domain
pub record AreEndsOf (e : Ends) (d : List Span) : Type 0 where
  pub lo : e.lo ≡ least_of d
  pub hi : e.hi ≡ greatest_of d

-- a test by ends says that a number lies between them
pub between_test : (lo hi n : ℤ) → IsTrue (int_le lo n && int_le n hi) ↔ ((lo ≤ℤ n) × (n ≤ℤ hi))
between_test lo hi n = (
  λ t. let p = and_parts (int_le lo n) (int_le n hi) t in (test_le lo n p.0, test_le n hi p.1),
  λ p. and_from (int_le lo n) (int_le n hi) (le_test lo n p.0) (le_test n hi p.1),
)

-- ---- a factor

pub factor_cut : (other product : Ends) (k : ℕ) (c lo hi : ℤ) (ds es : List (List Span)) → IsCutAt k (λ n. int_le lo (c *ℤ n) && int_le (c *ℤ n) hi) ds es → c ≡ other.lo → lo ≡ product.lo → hi ≡ product.hi → other.lo ≡ other.hi → other.lo ≢ pos 0
    → IsKeptAt k (FactorStays other product) ds es
factor_cut other product k c lo hi ds es cut e f g fixed o =
    keep_cut k (λ n. int_le lo (c *ℤ n) && int_le (c *ℤ n) hi) (FactorStays other product) ds es
    (λ n h. (
      λ t same other_value.
          let p = (between_test lo hi (c *ℤ n)).0 t in
          let both : (lo ≤ℤ (other.lo *ℤ n)) × ((other.lo *ℤ n) ≤ℤ hi) = subst (λ (z : ℤ). (lo ≤ℤ (z *ℤ n)) × ((z *ℤ n) ≤ℤ hi)) e p in
          (subst (λ (z : ℤ). z ≤ℤ (other.lo *ℤ n)) f both.0, subst (λ (z : ℤ). (other.lo *ℤ n) ≤ℤ z) g both.1),
      λ stays.
          let p = stays fixed o in
          let both : (lo ≤ℤ (other.lo *ℤ n)) × ((other.lo *ℤ n) ≤ℤ hi) = (subst (λ (z : ℤ). z ≤ℤ (other.lo *ℤ n)) (sym f) p.0, subst (λ (z : ℤ). (other.lo *ℤ n) ≤ℤ z) (sym g) p.1) in
          (between_test lo hi (c *ℤ n)).1 (subst (λ (z : ℤ). (lo ≤ℤ (z *ℤ n)) × ((z *ℤ n) ≤ℤ hi)) (sym e) both),
    )) cut

factor_says : (other product : Ends) (d p : List Span) (n : ℤ) → AreEndsOf other d → AreEndsOf product p → FactorStays other product n ↔ FactorKeeps p d n
factor_says other product d p n x y = (
  λ h c fixed o.
      let first : other.lo ≡ c = x.lo ∙ fixed.0 in
      let last : other.hi ≡ c = x.hi ∙ fixed.1 in
      let b = h (first ∙ sym last) (λ e. o (sym first ∙ e)) in
      let both : (product.lo ≤ℤ (c *ℤ n)) × ((c *ℤ n) ≤ℤ product.hi) = subst (λ (z : ℤ). (product.lo ≤ℤ (z *ℤ n)) × ((z *ℤ n) ≤ℤ product.hi)) first b in
      (subst (λ (z : ℤ). z ≤ℤ (c *ℤ n)) y.lo both.0, subst (λ (z : ℤ). (c *ℤ n) ≤ℤ z) y.hi both.1),
  λ h same o.
      let b : IsBetween p (other.lo *ℤ n) = h other.lo (sym x.lo, sym x.hi ∙ sym same) o in
      (subst (λ (z : ℤ). z ≤ℤ (other.lo *ℤ n)) (sym y.lo) b.0, subst (λ (z : ℤ). (other.lo *ℤ n) ≤ℤ z) (sym y.hi) b.1),
)

-- ---- each place by the rule

product_says : (ds : List (List Span)) (lo hi n : ℤ) → lo ≡ least_corner (domain_at ds 1) (domain_at ds 2) → hi ≡ greatest_corner (domain_at ds 1) (domain_at ds 2) → IsTrue (int_le lo n && int_le n hi) ↔ ProductKeeps ds 0 n
product_says ds lo hi n e f = (
  λ t. let p = (between_test lo hi n).0 t in record {
    product = λ at. (subst (λ (z : ℤ). z ≤ℤ n) e p.0, subst (λ (z : ℤ). n ≤ℤ z) f p.1);
    first = λ at. absurd (omega arith);
    second = λ at. absurd (omega arith);
  },
  λ p. let b = p.product refl in (between_test lo hi n).1 (subst (λ (z : ℤ). z ≤ℤ n) (sym e) b.0, subst (λ (z : ℤ). n ≤ℤ z) (sym f) b.1),
)

first_says : (ds : List (List Span)) (n : ℤ) → FactorKeeps (domain_at ds 0) (domain_at ds 2) n ↔ ProductKeeps ds 1 n
first_says ds n = (λ h. record { product = λ at. absurd (omega arith); first = λ at. h; second = λ at. absurd (omega arith) }, λ p. p.first refl)

second_says : (ds : List (List Span)) (n : ℤ) → FactorKeeps (domain_at ds 0) (domain_at ds 1) n ↔ ProductKeeps ds 2 n
second_says ds n = (λ h. record { product = λ at. absurd (omega arith); first = λ at. absurd (omega arith); second = λ at. h }, λ p. p.second refl)

both_ways : {P Q R : Type 0} → P ↔ Q → Q ↔ R → P ↔ R
both_ways f g = (λ p. g.0 (f.0 p), λ r. f.1 (g.1 r))

pub product_filtered : (ds es fs gs : List (List Span)) (product first second : Ends) (lo hi : ℤ) → length ds ≡ 3 → AreEndsOf product (domain_at ds 0) → AreEndsOf first (domain_at ds 1) → AreEndsOf second (domain_at ds 2)
    → IsCutAt 0 (λ n. int_le lo n && int_le n hi) ds es → lo ≡ least_corner (domain_at ds 1) (domain_at ds 2) → hi ≡ greatest_corner (domain_at ds 1) (domain_at ds 2)
    → IsKeptAt 1 (FactorStays second product) es fs → IsKeptAt 2 (FactorStays first product) fs gs → AreFiltered (ProductKeeps ds) ds gs
product_filtered ds es fs gs product first second lo hi count p x y at0 e f at1 at2 =
    let keep0 : IsKeptAt 0 (ProductKeeps ds 0) ds es = keep_cut 0 (λ n. int_le lo n && int_le n hi) (ProductKeeps ds 0) ds es (λ n h. product_says ds lo hi n e f) at0 in
    let keep1 : IsKeptAt 1 (ProductKeeps ds 1) es fs = keep_like 1 (FactorStays second product) (ProductKeeps ds 1) es fs (λ n h. both_ways (factor_says second product (domain_at ds 2) (domain_at ds 0) n y p) (first_says ds n)) at1 in
    let keep2 : IsKeptAt 2 (ProductKeeps ds 2) fs gs = keep_like 2 (FactorStays first product) (ProductKeeps ds 2) fs gs (λ n h. both_ways (factor_says first product (domain_at ds 1) (domain_at ds 0) n x p) (second_says ds n)) at2 in
    let one : KeptBefore 1 (ProductKeeps ds) ds es = kept_more 0 (ProductKeeps ds) ds ds es (kept_none (ProductKeeps ds) ds) keep0 in
    let two : KeptBefore 2 (ProductKeeps ds) ds fs = kept_more 1 (ProductKeeps ds) ds es fs one keep1 in
    kept_all 3 (ProductKeeps ds) ds gs (omega arith) (kept_more 2 (ProductKeeps ds) ds fs gs two keep2)
