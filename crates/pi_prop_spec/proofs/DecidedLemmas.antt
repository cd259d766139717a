-- The filter of a constraint as a test: it tells what the filter leaves.
use Rattle.std.specs.Prelude.{◌≡◌, ◌≢◌, ◌⊎◌, ℕ, zero, suc, ◌==◌, ◌<◌, Bool, false, not, ◌&&◌, IsTrue, List, [], ◌∷◌, ◌++◌, length, slice_get, Option, Some, None, ℤ, pos, ◌≤ℤ◌, refl}
use Rattle.std.specs.Bool.{Decides}
use Rattle.std.specs.List.{list_any}
use Rattle.std.specs.Ordering.{int_eq}
use Rattle.std.proofs.Common.{arith, sym, ◌∙◌, ap, subst}
use Rattle.std.proofs.lemmas.List.{length_push}
use Rattle.std.proofs.lemmas.Bool.Decides.{Decides-eqb, Decides-int_eq, Decides-like, Decides-and, Decides-or}
use Rattle.pi_constraints.specs.declared.constraint.Constraint.{Constraint}
use Rattle.pi_constraints.specs.declared.constraint.Item.{Item}
use Rattle.pi_constraints.specs.declared.constraint.Rel.{Rel}
use Rattle.pi_constraints.specs.declared.domain.Span.{Span}
use Rattle.pi_constraints.specs.Domain.{IsDomain, has_value, values_of}
use Rattle.pi_constraints.proofs.DomainLemmas.{values_lie_in_spans}
use Rattle.pi_prop_spec.specs.Ends.{least_of, greatest_of, IsFixedTo}
use Rattle.pi_prop_spec.specs.Places.{places_of, domain_at, HaveValues, HaveOneVariable}
use Rattle.pi_prop_spec.specs.Sums.{SumKeeps, OppositeKeeps}
use Rattle.pi_prop_spec.specs.Reified.{LeavesValues, of_terms, ReifiedKeeps}
use Rattle.pi_prop_spec.specs.Filter.{RuleKeeps, PlaceKeeps}
use Rattle.pi_prop_spec.specs.Laws.{AreDomainsOf}
use Rattle.pi_prop_spec.specs.Decided.{if_so, is_empty, is_fixed_to, sum_keeps, opposite_keeps, leaves_values, truth_keeps, reified_keeps, rule_keeps, have_values, place_keeps, same_variable, have_one_variable, leaves}
use Rattle.pi_prop_spec.specs.DecidedLaws.{LeavesIsDecided}
use Rattle.pi_prop_spec.proofs.EndLemmas.{least-below, greatest-has}
use Rattle.pi_prop_spec.proofs.DecidedTests.{is-true, not_both, and_so-decides, if_so-decides, cond-decides, each_below-decides, list_any-decides}
use Rattle.pi_prop_spec.proofs.DecidedRules.{some-decides, fixed_to-decides, sum-decides, opposite-decides, different-decides, element-decides, product-decides, absolute-decides}
use Rattle.pi_prop_spec.proofs.DecidedEnds.{AreOrdered, distinct-decides}

abbrev AreDomains : List (List Span) → Type 0
AreDomains ds = (k : ℕ) → k < length ds → IsDomain (domain_at ds k)

-- ---- reified sums

value-decides : (keeps : ℤ → Bool) (Kept : ℤ → Type 0) (d : List Span) → ((n : ℤ) → Decides (keeps n) (Kept n)) → IsDomain d → Decides (list_any keeps (values_of d)) ((n : ℤ) × IsTrue (has_value d n) × Kept n)
value-decides keeps Kept d each up = Decides-like (list_any keeps (values_of d))
    (λ h. (h.0, (values_lie_in_spans d up h.0).1 h.1, h.2))
    (λ h. (h.0, (values_lie_in_spans d up h.0).0 h.1, h.2))
    (list_any-decides keeps Kept each (values_of d))

values-decides : (keeps : ℕ → ℤ → Bool) (Kept : ℕ → ℤ → Type 0) (ds : List (List Span)) → ((k : ℕ) (n : ℤ) → Decides (keeps k n) (Kept k n)) → AreDomains ds → Decides (leaves_values keeps ds) (LeavesValues Kept ds)
values-decides keeps Kept ds each up = each_below-decides (λ k. list_any (keeps k) (values_of (domain_at ds k))) (λ k. (n : ℤ) × IsTrue (has_value (domain_at ds k) n) × Kept k n) (length ds)
    (λ k l. value-decides (keeps k) (Kept k) (domain_at ds k) (each k) (up k l))

terms-domains : (ds : List (List Span)) → AreDomains ds → AreDomains (of_terms ds)
terms-domains [] up k l = absurd (omega (arith, l))
terms-domains (d ∷ ds) up k l = up (suc k) (omega (arith, l))

truth-decides : (rel : Rel) (terms : List (ℤ × ℕ)) (constant : ℤ) (ds : List (List Span)) (n : ℤ) → AreDomains ds → Decides (truth_keeps rel terms constant ds n)
    (((n ≡ pos 1) × LeavesValues (SumKeeps rel terms constant (of_terms ds)) (of_terms ds)) ⊎ ((n ≡ pos 0) × LeavesValues (OppositeKeeps rel terms constant (of_terms ds)) (of_terms ds)))
truth-decides rel terms constant ds n up =
    let es : List (List Span) = of_terms ds in
    let so : Bool = leaves_values (sum_keeps rel terms constant es) es in
    let other : Bool = leaves_values (opposite_keeps rel terms constant es) es in
    Decides-or (int_eq n (pos 1) && so) (int_eq n (pos 0) && other)
    (Decides-and (int_eq n (pos 1)) so (Decides-int_eq n (pos 1)) (values-decides (sum_keeps rel terms constant es) (SumKeeps rel terms constant es) es (λ k m. sum-decides rel terms constant es k m) (terms-domains ds up)))
    (Decides-and (int_eq n (pos 0)) other (Decides-int_eq n (pos 0)) (values-decides (opposite_keeps rel terms constant es) (OppositeKeeps rel terms constant es) es (λ k m. opposite-decides rel terms constant es k m) (terms-domains ds up)))

not_one_and_zero : (d : List Span) → IsFixedTo d (pos 1) → IsFixedTo d (pos 0) → ⊥
not_one_and_zero d f g = let e : pos 1 ≡ pos 0 = sym f.0 ∙ g.0 in absurd (cc)

abbrev TermKeeps : Rel → List (ℤ × ℕ) → ℤ → List (List Span) → ℕ → ℤ → Type 0
TermKeeps rel terms constant ds j n =
    (IsFixedTo (domain_at ds 0) (pos 1) → SumKeeps rel terms constant (of_terms ds) j n) × (IsFixedTo (domain_at ds 0) (pos 0) → OppositeKeeps rel terms constant (of_terms ds) j n)

term-decides : (rel : Rel) (terms : List (ℤ × ℕ)) (constant : ℤ) (ds : List (List Span)) (j : ℕ) (n : ℤ) → Decides (reified_keeps rel terms constant ds (suc j) n) (TermKeeps rel terms constant ds j n)
term-decides rel terms constant ds j n =
    let d : List Span = domain_at ds 0 in
    let so : Bool = sum_keeps rel terms constant (of_terms ds) j n in
    let other : Bool = opposite_keeps rel terms constant (of_terms ds) j n in
    cond-decides (is_fixed_to d (pos 1)) so (if_so (is_fixed_to d (pos 0)) other) (fixed_to-decides d (pos 1))
    (λ one. Decides-like so (λ h. (λ p. h, λ p. absurd (not_one_and_zero d one p))) (λ h. h.0 one) (sum-decides rel terms constant (of_terms ds) j n))
    (λ none. Decides-like (if_so (is_fixed_to d (pos 0)) other) (λ h. (λ p. absurd (none p), h)) (λ h. h.1)
    (if_so-decides (is_fixed_to d (pos 0)) other (fixed_to-decides d (pos 0)) (λ p. opposite-decides rel terms constant (of_terms ds) j n)))

same-place : (i j : ℕ) → suc j ≡ suc i → j ≡ i
same-place i j e = omega (arith, e)

reified-decides : (rel : Rel) (terms : List (ℤ × ℕ)) (constant : ℤ) (ds : List (List Span)) (k : ℕ) (n : ℤ) → AreDomains ds → Decides (reified_keeps rel terms constant ds k n) (ReifiedKeeps rel terms constant ds k n)
reified-decides rel terms constant ds zero n up = Decides-like (reified_keeps rel terms constant ds zero n)
    (λ h. record { truth = λ at. h; holds = λ j at. absurd (omega (arith, at)); fails = λ j at. absurd (omega (arith, at)) })
    (λ (h : ReifiedKeeps rel terms constant ds zero n). h.truth refl) (truth-decides rel terms constant ds n up)
reified-decides rel terms constant ds (suc j) n up = Decides-like (reified_keeps rel terms constant ds (suc j) n)
    (λ h. record {
      truth = λ at. absurd (omega (arith, at));
      holds = λ i at one. subst (λ (m : ℕ). SumKeeps rel terms constant (of_terms ds) m n) (same-place i j at) (h.0 one);
      fails = λ i at none. subst (λ (m : ℕ). OppositeKeeps rel terms constant (of_terms ds) m n) (same-place i j at) (h.1 none);
    })
    (λ (h : ReifiedKeeps rel terms constant ds (suc j) n). (h.holds j refl, h.fails j refl)) (term-decides rel terms constant ds j n)

-- ---- all kinds

ordered : (d : List Span) → IsDomain d → d ≢ [] → least_of d ≤ℤ greatest_of d
ordered d up some = least-below d (greatest_of d) up (greatest-has d up some)

are-ordered : (ds : List (List Span)) → AreDomains ds → HaveValues ds → AreOrdered ds
are-ordered ds up some j l = ordered (domain_at ds j) (up j l) (some j l)

rule-decides : (c : Constraint) (ds : List (List Span)) (k : ℕ) (n : ℤ) → AreDomainsOf c ds → HaveValues ds → Decides (rule_keeps c ds k n) (RuleKeeps c ds k n)
rule-decides (Constraint.Linear rel terms constant) ds k n are some = sum-decides rel terms constant ds k n
rule-decides (Constraint.Product z x y) ds k n are some = product-decides ds k n
rule-decides (Constraint.Absolute z x) ds k n are some = absolute-decides ds k n (are-ordered ds are.domains some 1 (omega (arith, are.count)))
rule-decides (Constraint.Different items) ds k n are some = different-decides ds k n
rule-decides (Constraint.Element index items value) ds k n are some =
    let many : length (items ++ value ∷ []) ≡ suc (length items) = length_push items value ∙ omega arith in
    element-decides (length items) ds k n (λ j l. are.domains j (omega (arith, l, are.count, many)))
rule-decides (Constraint.Reified truth rel terms constant) ds k n are some = reified-decides rel terms constant ds k n are.domains
rule-decides (Constraint.Distinct items) ds k n are some = distinct-decides ds k n (are-ordered ds are.domains some)

have_values-decides : (ds : List (List Span)) → Decides (have_values ds) (HaveValues ds)
have_values-decides ds = each_below-decides (λ k. not (is_empty (domain_at ds k))) (λ k. domain_at ds k ≢ []) (length ds) (λ k l. some-decides (domain_at ds k))

place-decides : (c : Constraint) (ds : List (List Span)) (k : ℕ) (n : ℤ) → AreDomainsOf c ds → Decides (place_keeps c ds k n) (PlaceKeeps c ds k n)
place-decides c ds k n are = Decides-like (place_keeps c ds k n)
    (λ h. record { values = h.0; given = h.1.0; rule = h.1.1 })
    (λ (h : PlaceKeeps c ds k n). (h.values, (h.given, h.rule)))
    (and_so-decides (have_values ds) (has_value (domain_at ds k) n && rule_keeps c ds k n) (have_values-decides ds)
    (λ some. Decides-and (has_value (domain_at ds k) n) (rule_keeps c ds k n) (is-true (has_value (domain_at ds k) n)) (rule-decides c ds k n are some)))

variable-of : (m n : ℕ) → Some (Item.Var m) ≡ Some (Item.Var n) → m ≡ n
variable-of m n e = cc

variable-decides : (x y : Option Item) → Decides (same_variable x y) ((n : ℕ) × (x ≡ Some (Item.Var n)) × (y ≡ Some (Item.Var n)))
variable-decides (Some (Item.Var m)) (Some (Item.Var n)) = Decides-like (m == n)
    (λ e. (n, ap (λ (z : ℕ). Some (Item.Var z)) e, refl))
    (λ h. variable-of m h.0 h.1 ∙ sym (variable-of n h.0 h.2)) (Decides-eqb m n)
variable-decides (Some (Item.Var m)) (Some (Item.Int j)) = (λ e. absurd (not_both false e refl), λ h. absurd (let e = h.2 in cc))
variable-decides (Some (Item.Var m)) None = (λ e. absurd (not_both false e refl), λ h. absurd (let e = h.2 in cc))
variable-decides (Some (Item.Int i)) y = (λ e. absurd (not_both false e refl), λ h. absurd (let e = h.1 in cc))
variable-decides None y = (λ e. absurd (not_both false e refl), λ h. absurd (let e = h.1 in cc))

one_variable-decides : (items : List Item) (j k : ℕ) → Decides (have_one_variable items j k) (HaveOneVariable items j k)
one_variable-decides items j k = Decides-or (j == k) (same_variable (slice_get items j) (slice_get items k)) (Decides-eqb j k) (variable-decides (slice_get items j) (slice_get items k))

pub leaves_is_decided : LeavesIsDecided
unfolding leaves
leaves_is_decided c ds k n are = each_below-decides (λ j. if_so (have_one_variable (places_of c) j k) (place_keeps c ds j n)) (λ j. HaveOneVariable (places_of c) j k → PlaceKeeps c ds j n) (length (places_of c))
    (λ j l. if_so-decides (have_one_variable (places_of c) j k) (place_keeps c ds j n) (one_variable-decides (places_of c) j k) (λ p. place-decides c ds j n are))
