-- The filter of each constraint: it is monotone, loses no solution, and is decisive.
use Rattle.std.specs.Prelude.{◌≡◌, ◌≢◌, ℕ, zero, suc, ◌<◌, IsTrue, List, [], ◌∷◌, ◌++◌, length, get_or, slice_get, Some, ℤ, pos, refl}
use Rattle.std.proofs.Common.{arith, sym, ◌∙◌, ap, subst, inl, inr}
use Rattle.std.proofs.lemmas.List.{length-map, length_push}
use Rattle.pi_constraints.specs.declared.constraint.Rel.{Rel}
use Rattle.pi_constraints.specs.declared.constraint.Item.{Item}
use Rattle.pi_constraints.specs.declared.constraint.Constraint.{Constraint}
use Rattle.pi_constraints.specs.declared.domain.Span.{Span}
use Rattle.pi_constraints.specs.Domain.{IsDomain, has_value}
use Rattle.pi_constraints.specs.Constraint.{IsWithinLimits}
use Rattle.pi_prop_spec.specs.Ends.{least_of, IsBetween, IsFixedTo}
use Rattle.pi_prop_spec.specs.Places.{sum_places, places_of, domain_at, HaveValues, HaveOneVariable}
use Rattle.pi_prop_spec.specs.Sums.{SumKeeps}
use Rattle.pi_prop_spec.specs.Rules.{DifferentKeeps}
use Rattle.pi_prop_spec.specs.Filter.{RuleKeeps, PlaceKeeps}
use Rattle.pi_prop_spec.specs.Solutions.{value_of, values_of_items, value_at, AreDifferent, Holds}
use Rattle.pi_prop_spec.specs.Laws.{AreDomainsOf, AreWithin, HaveValuesOf, AreFixedBy, FiltersAreMonotone, FiltersKeepSolutions, FiltersAreDecisive, DistinctSaysDifferent, DistinctLeavesNoMore}
use Rattle.pi_prop_spec.proofs.EndLemmas.{not_empty, only_value, least-has}
use Rattle.pi_prop_spec.proofs.PlaceLemmas.{Given, Decided, Narrowed, given_between, given_values, narrowed_ends}
use Rattle.pi_prop_spec.proofs.SumLemmas.{variable_at}
use Rattle.pi_prop_spec.proofs.SumLaws.{HasBetween, HasFixed, sum-solution, sum-decided, sum-monotone}
use Rattle.pi_prop_spec.proofs.ProductLaws.{products-keep_solutions, products-decide, products-are_monotone, absolutes-keep_solutions, absolutes-decide, absolutes-are_monotone}
use Rattle.pi_prop_spec.proofs.ElementLaws.{elements-keep_solutions, elements-decide, elements-are_monotone}
use Rattle.pi_prop_spec.proofs.DifferentLaws.{value_in, differences-keep_solutions, different_or_pair, pair-empties, differences-are_monotone}
use Rattle.pi_prop_spec.proofs.DistinctLaws.{distinct-keeps_solutions, distinct-is_monotone}
use Rattle.pi_prop_spec.proofs.ReifiedLaws.{values_from, reified-keeps_solutions, reified-decides, reified-is_monotone}

-- ---- places and their values

length-sum_places : (ts : List (ℤ × ℕ)) → length (sum_places ts) ≡ length ts
unfolding sum_places
length-sum_places [] = refl
length-sum_places (t ∷ ts) = ap suc (length-sum_places ts)

sum_value : (a : ℕ → ℤ) (ts : List (ℤ × ℕ)) (k : ℕ) → k < length ts → get_or (values_of_items a (sum_places ts)) k (pos 0) ≡ a (variable_at ts k)
unfolding sum_places
sum_value a [] k l = absurd (omega arith)
sum_value a (t ∷ ts) zero l = refl
sum_value a (t ∷ ts) (suc k) l = sum_value a ts k (omega arith)

item_value : (a : ℕ → ℤ) (items : List Item) (value : Item) (i : ℕ) → i < length items → get_or (values_of_items a (items ++ value ∷ [])) i (pos 0) ≡ get_or (values_of_items a items) i (pos 0)
item_value a [] value i l = absurd (omega arith)
item_value a (x ∷ items) value zero l = refl
item_value a (x ∷ items) value (suc i) l = item_value a items value i (omega arith)

last_value : (a : ℕ → ℤ) (items : List Item) (value : Item) → get_or (values_of_items a (items ++ value ∷ [])) (length items) (pos 0) ≡ value_of a value
last_value a [] value = refl
last_value a (x ∷ items) value = last_value a items value

element_places : (index : Item) (items : List Item) (value : Item) → length (index ∷ (items ++ value ∷ [])) ≡ suc (suc (length items))
element_places index items value = let e = length_push items value in omega arith

given_of : (c : Constraint) (ds : List (List Span)) (a : ℕ → ℤ) → AreDomainsOf c ds → HaveValuesOf c a ds → Given (value_at a c) ds
given_of c ds a d h = record { domains = d.domains; has = λ k l. h k (omega (arith, d.count)) }

decided_of : (c : Constraint) (ds : List (List Span)) (a : ℕ → ℤ) → AreDomainsOf c ds → HaveValuesOf c a ds → AreFixedBy c a ds → Decided (value_at a c) ds
decided_of c ds a d h f = record { given = given_of c ds a d h; fixed = λ k l. f k (omega (arith, d.count)) }

narrowed_of : (c : Constraint) (ds es : List (List Span)) → AreDomainsOf c ds → AreDomainsOf c es → AreWithin ds es → HaveValues es → Narrowed ds es
narrowed_of c ds es d e w some = record { count = e.count ∙ sym d.count; first = d.domains; second = e.domains; some = some; sub = w }

sum_between : (rel : Rel) (ts : List (ℤ × ℕ)) (m : ℤ) (a : ℕ → ℤ) (ds : List (List Span)) → length ds ≡ length ts → Given (value_at a (Constraint.Linear rel ts m)) ds → HasBetween a ts ds
sum_between rel ts m a ds c g = record {
  count = c;
  all = λ k l. subst (λ (z : ℤ). IsBetween (domain_at ds k) z) (sum_value a ts k l) (given_between (value_at a (Constraint.Linear rel ts m)) ds k g (omega (arith, c)));
}

sum_fixed : (rel : Rel) (ts : List (ℤ × ℕ)) (m : ℤ) (a : ℕ → ℤ) (ds : List (List Span)) → length ds ≡ length ts → Decided (value_at a (Constraint.Linear rel ts m)) ds → HasFixed a ts ds
sum_fixed rel ts m a ds c d = record {
  count = c;
  all = λ k l. subst (λ (z : ℤ). IsFixedTo (domain_at ds k) z) (sum_value a ts k l) (d.fixed k (omega (arith, c)));
}

-- the value at a place of a reified sum
reified_value : (truth : Item) (rel : Rel) (ts : List (ℤ × ℕ)) (m : ℤ) (a : ℕ → ℤ) (k : ℕ) → k < suc (length ts) → value_at a (Constraint.Reified truth rel ts m) k ≡ values_from (value_of a truth) a ts k
unfolding values_from
reified_value truth rel ts m a zero l = refl
reified_value truth rel ts m a (suc k) l = sum_value a ts k (omega arith)

reified_given : (truth : Item) (rel : Rel) (ts : List (ℤ × ℕ)) (m : ℤ) (a : ℕ → ℤ) (ds : List (List Span)) → length ds ≡ suc (length ts) → Given (value_at a (Constraint.Reified truth rel ts m)) ds → Given (values_from (value_of a truth) a ts) ds
reified_given truth rel ts m a ds c g = record {
  domains = g.domains;
  has = λ k l. subst (λ (z : ℤ). IsTrue (has_value (domain_at ds k) z)) (reified_value truth rel ts m a k (omega (arith, c))) (g.has k l);
}

reified_decided : (truth : Item) (rel : Rel) (ts : List (ℤ × ℕ)) (m : ℤ) (a : ℕ → ℤ) (ds : List (List Span)) → length ds ≡ suc (length ts) → Decided (value_at a (Constraint.Reified truth rel ts m)) ds → Decided (values_from (value_of a truth) a ts) ds
reified_decided truth rel ts m a ds c d = record {
  given = reified_given truth rel ts m a ds c d.given;
  fixed = λ k l. subst (λ (z : ℤ). IsFixedTo (domain_at ds k) z) (reified_value truth rel ts m a k (omega (arith, c))) (d.fixed k l);
}

reified_count : (truth : Item) (rel : Rel) (ts : List (ℤ × ℕ)) (m : ℤ) (ds : List (List Span)) → AreDomainsOf (Constraint.Reified truth rel ts m) ds → length ds ≡ suc (length ts)
reified_count truth rel ts m ds d = d.count ∙ ap suc (length-sum_places ts)

-- ---- no solution is lost

reified-solution : (truth : Item) (rel : Rel) (ts : List (ℤ × ℕ)) (m : ℤ) (a : ℕ → ℤ) (ds : List (List Span)) (k : ℕ) → length ds ≡ suc (length ts) → Given (values_from (value_of a truth) a ts) ds → k < suc (length ts) → Holds (Constraint.Reified truth rel ts m) a
    → RuleKeeps (Constraint.Reified truth rel ts m) ds k (value_at a (Constraint.Reified truth rel ts m) k)
reified-solution truth rel ts m a [] k c g l s = absurd (omega arith)
reified-solution truth rel ts m a (d ∷ ds) k c g l s =
    reified-keeps_solutions rel (value_of a truth) a ts m d ds k (value_at a (Constraint.Reified truth rel ts m) k) g (omega arith) l (reified_value truth rel ts m a k l) s

rule-solution : (c : Constraint) (ds : List (List Span)) (a : ℕ → ℤ) (k : ℕ) → AreDomainsOf c ds → HaveValuesOf c a ds → Holds c a → k < length (places_of c) → RuleKeeps c ds k (value_at a c k)
rule-solution (Constraint.Linear rel ts m) ds a k d h s l =
    let places : length (sum_places ts) ≡ length ts = length-sum_places ts in
    let count : length ds ≡ length ts = d.count ∙ places in
    let inside : k < length ts = omega arith in
    let g : HasBetween a ts ds = sum_between rel ts m a ds count (given_of (Constraint.Linear rel ts m) ds a d h) in
    subst (λ (z : ℤ). SumKeeps rel ts m ds k z) (sym (sum_value a ts k inside)) (sum-solution rel a ts m ds k g inside s)
rule-solution (Constraint.Product z x y) ds a k d h s l =
    products-keep_solutions ds (value_at a (Constraint.Product z x y)) k (value_at a (Constraint.Product z x y) k) (given_of (Constraint.Product z x y) ds a d h) d.count s refl
rule-solution (Constraint.Absolute z x) ds a k d h s l =
    absolutes-keep_solutions ds (value_at a (Constraint.Absolute z x)) k (value_at a (Constraint.Absolute z x) k) (given_of (Constraint.Absolute z x) ds a d h) d.count s refl
rule-solution (Constraint.Different items) ds a k d h s l =
    differences-keep_solutions ds (values_of_items a items) k (value_in (values_of_items a items) k) (given_of (Constraint.Different items) ds a d h)
    (d.count ∙ sym (length-map items (value_of a))) (omega (arith, d.count)) s refl
rule-solution (Constraint.Element index items value) ds a k d h s l =
    let v : ℕ → ℤ = value_at a (Constraint.Element index items value) in
    let same : v (suc s.0) ≡ v (suc (length items)) = item_value a items value s.0 s.1 ∙ (s.3 ∙ sym (last_value a items value)) in
    elements-keep_solutions (length items) ds v k (v k) s.0 (given_of (Constraint.Element index items value) ds a d h) (d.count ∙ element_places index items value) s.1 s.2 same refl
rule-solution (Constraint.Reified truth rel ts m) ds a k d h s l =
    let count : length ds ≡ suc (length ts) = reified_count truth rel ts m ds d in
    reified-solution truth rel ts m a ds k count (reified_given truth rel ts m a ds count (given_of (Constraint.Reified truth rel ts m) ds a d h)) (omega (arith, d.count)) s
rule-solution (Constraint.Distinct items) ds a k d h s l =
    distinct-keeps_solutions ds (values_of_items a items) k (value_in (values_of_items a items) k) (given_of (Constraint.Distinct items) ds a d h)
    (d.count ∙ sym (length-map items (value_of a))) (omega (arith, d.count)) s refl

-- places of one variable have one value
value_of_variable : (a : ℕ → ℤ) (items : List Item) (k n : ℕ) → slice_get items k ≡ Some (Item.Var n) → get_or (values_of_items a items) k (pos 0) ≡ a n
value_of_variable a [] k n e = absurd (cc)
value_of_variable a (x ∷ items) zero n e = let same : x ≡ Item.Var n = cc in ap (value_of a) same
value_of_variable a (x ∷ items) (suc k) n e = value_of_variable a items k n e

one_value : (a : ℕ → ℤ) (items : List Item) (j k : ℕ) → HaveOneVariable items j k → get_or (values_of_items a items) j (pos 0) ≡ get_or (values_of_items a items) k (pos 0)
one_value a items j k (inl e) = ap (λ (i : ℕ). get_or (values_of_items a items) i (pos 0)) e
one_value a items j k (inr h) = value_of_variable a items j h.0 h.1 ∙ sym (value_of_variable a items k h.0 h.2)

pub filters_keep_solutions : FiltersKeepSolutions
filters_keep_solutions c ds a d h s k l = λ j b one. subst (λ (z : ℤ). PlaceKeeps c ds j z) (one_value a (places_of c) j k one)
    (record { values = given_values (value_at a c) ds (given_of c ds a d h); given = h j b; rule = rule-solution c ds a j d h s b })

-- ---- where all places are fixed

abbrev Empties : Constraint → List (List Span) → (ℕ → ℤ) → Type 0
Empties c ds a = (k : ℕ) × (k < length (places_of c)) × (RuleKeeps c ds k (value_at a c k) → ⊥)

some_terms : (ts : List (ℤ × ℕ)) → ts ≢ [] → 0 < length ts
some_terms [] h = absurd (h refl)
some_terms (t ∷ ts) h = omega arith

reified-empties : (truth : Item) (rel : Rel) (ts : List (ℤ × ℕ)) (m : ℤ) (a : ℕ → ℤ) (ds : List (List Span)) → length ds ≡ suc (length ts) → 0 < length ts → Decided (values_from (value_of a truth) a ts) ds → (Holds (Constraint.Reified truth rel ts m) a → ⊥)
    → RuleKeeps (Constraint.Reified truth rel ts m) ds 0 (value_of a truth) → ⊥
reified-empties truth rel ts m a [] c some d no_ h = absurd (omega arith)
reified-empties truth rel ts m a (d ∷ ds) c some g no_ h = no_ (reified-decides rel (value_of a truth) a ts m d ds g (omega arith) some h)

pair_or_holds : (items : List Item) (ds : List (List Span)) (a : ℕ → ℤ) → length ds ≡ length items → Decided (value_in (values_of_items a items)) ds → (AreDifferent (values_of_items a items) → ⊥)
    → (k : ℕ) × (k < length items) × (DifferentKeeps ds k (value_in (values_of_items a items) k) → ⊥)
pair_or_holds items ds a c d no_ =
    let count : length (values_of_items a items) ≡ length items = length-map items (value_of a) in
    elim (different_or_pair (values_of_items a items)) [
      | inl h ↦ absurd (no_ h)
      | inr p ↦ (p.first, omega (arith, p.ordered, p.inside), pair-empties ds (values_of_items a items) p d (c ∙ sym count))
    ]

rule-empties : (c : Constraint) (ds : List (List Span)) (a : ℕ → ℤ) → IsWithinLimits c → AreDomainsOf c ds → HaveValuesOf c a ds → AreFixedBy c a ds → (Holds c a → ⊥) → Empties c ds a
rule-empties (Constraint.Linear rel ts m) ds a w d h f no_ =
    let some : 0 < length ts = some_terms ts w.0 in
    let places : length (sum_places ts) ≡ length ts = length-sum_places ts in
    let g : HasFixed a ts ds = sum_fixed rel ts m a ds (d.count ∙ places) (decided_of (Constraint.Linear rel ts m) ds a d h f) in
    (0, omega arith, λ r. no_ (sum-decided rel a ts m ds 0 g some (subst (λ (z : ℤ). SumKeeps rel ts m ds 0 z) (sum_value a ts 0 some) r)))
rule-empties (Constraint.Product z x y) ds a w d h f no_ =
    (0, omega arith, λ r. no_ (products-decide ds (value_at a (Constraint.Product z x y)) (decided_of (Constraint.Product z x y) ds a d h f) d.count r))
rule-empties (Constraint.Absolute z x) ds a w d h f no_ =
    (0, omega arith, λ r. no_ (absolutes-decide ds (value_at a (Constraint.Absolute z x)) (decided_of (Constraint.Absolute z x) ds a d h f) d.count r))
rule-empties (Constraint.Different items) ds a w d h f no_ = pair_or_holds items ds a d.count (decided_of (Constraint.Different items) ds a d h f) no_
rule-empties (Constraint.Element index items value) ds a w d h f no_ =
    let v : ℕ → ℤ = value_at a (Constraint.Element index items value) in
    let g : Decided v ds = decided_of (Constraint.Element index items value) ds a d h f in (
      0,
      omega (arith, element_places index items value),
      λ r.
          let e = elements-decide (length items) ds v g (d.count ∙ element_places index items value) r in
          no_ (e.0, e.1, e.2, sym (item_value a items value e.0 e.1) ∙ (e.3 ∙ last_value a items value)),
    )
rule-empties (Constraint.Reified truth rel ts m) ds a w d h f no_ =
    let count : length ds ≡ suc (length ts) = reified_count truth rel ts m ds d in
    (0, omega arith, reified-empties truth rel ts m a ds count (some_terms ts w.1.0) (reified_decided truth rel ts m a ds count (decided_of (Constraint.Reified truth rel ts m) ds a d h f)) no_)
rule-empties (Constraint.Distinct items) ds a w d h f no_ =
    let e = pair_or_holds items ds a d.count (decided_of (Constraint.Distinct items) ds a d h f) no_ in (e.0, e.1, λ r. e.2 r.0)

pub filters_are_decisive : FiltersAreDecisive
filters_are_decisive c ds a w d h f = (
  λ e s. e.2 (value_at a c e.0) (filters_keep_solutions c ds a d h s e.0 e.1),
  λ no_. let e = rule-empties c ds a w d h f no_ in (
    e.0,
    e.1,
    λ n kept.
        let here : PlaceKeeps c ds e.0 n = kept e.0 e.1 (inl refl) in
        let same : n ≡ value_at a c e.0 = only_value (domain_at ds e.0) (value_at a c e.0) n (d.domains e.0 (omega (arith, e.1, d.count))) (f e.0 e.1) here.given in
        e.2 (subst (λ (z : ℤ). RuleKeeps c ds e.0 z) same here.rule),
  ),
)

-- ---- fewer values

reified-narrowed : (truth : Item) (rel : Rel) (ts : List (ℤ × ℕ)) (m : ℤ) (ds es : List (List Span)) (k : ℕ) (n : ℤ) → length ds ≡ suc (length ts) → Narrowed ds es → RuleKeeps (Constraint.Reified truth rel ts m) es k n → RuleKeeps (Constraint.Reified truth rel ts m) ds k n
reified-narrowed truth rel ts m [] es k n c w h = absurd (omega arith)
reified-narrowed truth rel ts m (d ∷ ds) [] k n c w h = absurd (omega (arith, w.count))
reified-narrowed truth rel ts m (d ∷ ds) (e ∷ es) k n c w h = reified-is_monotone rel ts m d e ds es k n w (omega arith) h

rule-narrowed : (c : Constraint) (ds es : List (List Span)) (k : ℕ) (n : ℤ) → AreDomainsOf c ds → Narrowed ds es → k < length (places_of c) → RuleKeeps c es k n → RuleKeeps c ds k n
rule-narrowed (Constraint.Linear rel ts m) ds es k n d w l h =
    let count : length ds ≡ length ts = d.count ∙ length-sum_places ts in
    sum-monotone rel ts m ds es k n (record { first = count; second = w.count ∙ count; all = λ j b. narrowed_ends ds es j w (omega arith) }) h
rule-narrowed (Constraint.Product z x y) ds es k n d w l h = products-are_monotone ds es k n w d.count h
rule-narrowed (Constraint.Absolute z x) ds es k n d w l h = absolutes-are_monotone ds es k n w d.count h
rule-narrowed (Constraint.Different items) ds es k n d w l h = differences-are_monotone ds es k n w h
rule-narrowed (Constraint.Element index items value) ds es k n d w l h = elements-are_monotone (length items) ds es k n w (d.count ∙ element_places index items value) h
rule-narrowed (Constraint.Reified truth rel ts m) ds es k n d w l h = reified-narrowed truth rel ts m ds es k n (reified_count truth rel ts m ds d) w h
rule-narrowed (Constraint.Distinct items) ds es k n d w l h = distinct-is_monotone ds es k n w (omega (arith, d.count)) h

not_nil_wider : (d e : List Span) → e ≢ [] → ((n : ℤ) → IsTrue (has_value e n) → IsTrue (has_value d n)) → IsDomain e → d ≢ []
not_nil_wider d e some sub up = not_empty d (least_of e) (sub (least_of e) (least-has e up some))

wider_values : (c : Constraint) (ds es : List (List Span)) → AreDomainsOf c ds → AreDomainsOf c es → AreWithin ds es → HaveValues es → HaveValues ds
wider_values c ds es d e w some = λ k l. not_nil_wider (domain_at ds k) (domain_at es k) (some k (omega (arith, d.count, e.count))) (λ n h. w k n l h) (e.domains k (omega (arith, d.count, e.count)))

pub filters_are_monotone : FiltersAreMonotone
filters_are_monotone c ds es d e w k n l h = λ j b one.
    let there : PlaceKeeps c es j n = h j b one in
    record {
      values = wider_values c ds es d e w there.values;
      given = w j n (omega (arith, b, d.count)) there.given;
      rule = rule-narrowed c ds es j n d (narrowed_of c ds es d e w there.values) b there.rule;
    }

-- ---- Distinct and Different

pub distinct_says_different : DistinctSaysDifferent
distinct_says_different items a = (λ h. h, λ h. h)

pub distinct_leaves_no_more : DistinctLeavesNoMore
distinct_leaves_no_more items ds k n h = λ j b one. let there = h j b one in record { values = there.values; given = there.given; rule = there.rule.0 }
