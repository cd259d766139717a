-- What is left by the filter of a constraint, from what its rule keeps at each place and what places of one variable have together.
use Rattle.std.specs.Prelude.{◌≡◌, ◌↔◌, ℕ, zero, suc, ◌+◌, ◌<◌, ◌≤◌, IsTrue, slice_get, Some, List, [], ◌∷◌, ◌++◌, length, take, ℤ, refl}
use Rattle.std.specs.Prelude.{Result, IfOk, ◌^◌, nat_abs}
use Rattle.std.specs.Int.{w128}
use Rattle.std.proofs.Common.{arith, sym, ◌∙◌, ap, subst, inl, inr, to_z, of_z, length-append}
use Rattle.std.proofs.lemmas.Bool.{false≢true}
use Rattle.std.proofs.lemmas.List.{take_all}
use Rattle.pi_constraints.specs.declared.constraint.Rel.{Rel}
use Rattle.pi_constraints.specs.declared.constraint.Item.{Item}
use Rattle.pi_constraints.specs.declared.constraint.Constraint.{Constraint}
use Rattle.pi_constraints.specs.declared.domain.Span.{Span}
use Rattle.pi_constraints.specs.Domain.{has_value}
use Rattle.pi_constraints.specs.Constraint.{IsSum, IsSumWithinLimits, IsWithinLimits}
use Rattle.pi_prop_spec.specs.Places.{domain_at, HaveValues, places_of, sum_places}
use Rattle.pi_prop_spec.specs.Filter.{RuleKeeps}
use Rattle.pi_prop_spec.proofs.SumLemmas.{variable_at}
use Rattle.pi_prop_places.specs.Changes.{AreFiltered, AreFilteredFrom, AreEmptied}
use Rattle.pi_prop_filters.specs.Variables.{AreMet, AreApart}
use Rattle.pi_prop_spec.specs.Sums.{SumKeeps}
use Rattle.pi_prop_spec.specs.Reified.{ReifiedKeeps}
use Rattle.pi_prop_spec.specs.Rules.{DistinctKeeps, ElementKeeps}
use Rattle.pi_prop_filters.proofs.BitLemmas.{back}
use Rattle.pi_prop_filters.proofs.RootLemmas.{some_item, variable_same}
use Rattle.pi_prop_filters.proofs.ApartLemmas.{apart_met, sum_places-take_more}
use Rattle.pi_prop_filters.specs.Left.{AreLeft, DistinctLeaves}

-- ---- kinds

pub sum_filtered : (Kept : ℕ → ℤ → Type 0) (ds es : List (List Span)) → AreFilteredFrom 0 Kept ds es → AreFiltered Kept ds es
sum_filtered Kept ds es f = record {
  count = f.count;
  kept = λ k n l.
      let same : 0 + k ≡ k = omega arith in
      subst (λ (j : ℕ). IsTrue (has_value (domain_at es j) n) ↔ (IsTrue (has_value (domain_at ds j) n) × Kept k n)) same (f.kept k n (omega arith));
}

pub length-sum_places : (ts : List (ℤ × ℕ)) → length (sum_places ts) ≡ length ts
unfolding sum_places
length-sum_places [] = refl
length-sum_places (t ∷ ts) = ap suc (length-sum_places ts)

pub reified_count : (c : Constraint) (truth : Item) (rel : Rel) (ts : List (ℤ × ℕ)) (m : ℤ) (n : ℕ) → c ≡ Constraint.Reified truth rel ts m → n ≡ length (places_of c) → n ≡ 1 + length ts
reified_count c truth rel ts m n e count =
    let places : length (places_of c) ≡ suc (length (sum_places ts)) = ap (λ (x : Constraint). length (places_of x)) e in
    omega (arith, length-sum_places ts)

pub element_count : (c : Constraint) (index : Item) (items : List Item) (value : Item) (n k : ℕ) → c ≡ Constraint.Element index items value → n ≡ length (places_of c) → k ≡ length items → n ≡ k + 2
element_count c index items value n k e count is =
    let places : length (places_of c) ≡ suc (length (items ++ value ∷ [])) = ap (λ (x : Constraint). length (places_of x)) e in
    let both : length (items ++ value ∷ []) ≡ length items + 1 = length-append items (value ∷ []) in
    omega arith

pub element_few : (c : Constraint) (index : Item) (items : List Item) (value : Item) (k : ℕ) → c ≡ Constraint.Element index items value → IsWithinLimits c → k ≡ length items → k ≤ 2 ^ 20
element_few c index items value k e limits is = let few = (subst IsWithinLimits e limits).0 in omega (arith, few)

-- a sum as the code hands it over: its terms by a slice, and its constant by its bits
sum_handed : (ts us : List (ℤ × ℕ)) (m : ℤ) (P : List (ℤ × ℕ) → ℤ → Type 0) → us ≡ ts → nat_abs m ≤ 2 ^ 100 → P ts m → P us (to_z w128 (of_z w128 m))
sum_handed ts us m P f narrow p =
    let same : to_z w128 (of_z w128 m) ≡ m = back m (omega (arith, narrow)) in
    subst (λ (z : ℤ). P us z) (sym same) (subst (λ (x : List (ℤ × ℕ)). P x m) (sym f) p)

sum_had : (ts us : List (ℤ × ℕ)) (m : ℤ) (P : List (ℤ × ℕ) → ℤ → Type 0) → us ≡ ts → nat_abs m ≤ 2 ^ 100 → P us (to_z w128 (of_z w128 m)) → P ts m
sum_had ts us m P f narrow p =
    let same : to_z w128 (of_z w128 m) ≡ m = back m (omega (arith, narrow)) in
    subst (λ (z : ℤ). P ts z) same (subst (λ (x : List (ℤ × ℕ)). P x (to_z w128 (of_z w128 m))) f p)

pub linear_limits : (c : Constraint) (rel : Rel) (ts us : List (ℤ × ℕ)) (m : ℤ) → c ≡ Constraint.Linear rel ts m → us ≡ ts → IsWithinLimits c → IsSumWithinLimits us (to_z w128 (of_z w128 m))
linear_limits c rel ts us m e f limits = let s : IsSumWithinLimits ts m = subst IsWithinLimits e limits in sum_handed ts us m (λ x z. IsSumWithinLimits x z) f s.3 s

pub reified_limits : (c : Constraint) (truth : Item) (rel : Rel) (ts us : List (ℤ × ℕ)) (m : ℤ) → c ≡ Constraint.Reified truth rel ts m → us ≡ ts → IsWithinLimits c → IsSumWithinLimits us (to_z w128 (of_z w128 m))
reified_limits c truth rel ts us m e f limits = let s : IsSumWithinLimits ts m = (subst IsWithinLimits e limits).1 in sum_handed ts us m (λ x z. IsSumWithinLimits x z) f s.3 s

-- what the filter of a kind keeps is what the rule keeps
pub kind_filtered : {A E : Type 0} (c d : Constraint) (r : Result A E) (ds es : List (List Span)) → c ≡ d → IfOk r (λ a. AreFiltered (RuleKeeps d ds) ds es) → IfOk r (λ a. AreFiltered (RuleKeeps c ds) ds es)
kind_filtered c d r ds es e f = subst (λ (x : Constraint). IfOk r (λ a. AreFiltered (RuleKeeps x ds) ds es)) (sym e) f

pub linear_filtered : {A E : Type 0} (c : Constraint) (rel : Rel) (ts us : List (ℤ × ℕ)) (m : ℤ) (r : Result A E) (ds es : List (List Span)) → c ≡ Constraint.Linear rel ts m → us ≡ ts → IsWithinLimits c
    → IfOk r (λ a. AreFiltered (SumKeeps rel us (to_z w128 (of_z w128 m)) ds) ds es) → IfOk r (λ a. AreFiltered (RuleKeeps c ds) ds es)
linear_filtered c rel ts us m r ds es e f limits h =
    let s : IsSumWithinLimits ts m = subst IsWithinLimits e limits in
    kind_filtered c (Constraint.Linear rel ts m) r ds es e (sum_had ts us m (λ x z. IfOk r (λ a. AreFiltered (SumKeeps rel x z ds) ds es)) f s.3 h)

pub reified_kept : {A E : Type 0} (c : Constraint) (truth : Item) (rel : Rel) (ts us : List (ℤ × ℕ)) (m : ℤ) (r : Result A E) (ds es : List (List Span)) → c ≡ Constraint.Reified truth rel ts m → us ≡ ts → IsWithinLimits c
    → IfOk r (λ a. AreFiltered (ReifiedKeeps rel us (to_z w128 (of_z w128 m)) ds) ds es) → IfOk r (λ a. AreFiltered (RuleKeeps c ds) ds es)
reified_kept c truth rel ts us m r ds es e f limits h =
    let s : IsSumWithinLimits ts m = (subst IsWithinLimits e limits).1 in
    kind_filtered c (Constraint.Reified truth rel ts m) r ds es e (sum_had ts us m (λ x z. IfOk r (λ a. AreFiltered (ReifiedKeeps rel x z ds) ds es)) f s.3 h)

pub element_kept : {A E : Type 0} (c : Constraint) (index : Item) (items : List Item) (value : Item) (k : ℕ) (r : Result A E) (ds es : List (List Span)) → c ≡ Constraint.Element index items value → k ≡ length items
    → IfOk r (λ a. AreFiltered (ElementKeeps k ds) ds es) → IfOk r (λ a. AreFiltered (RuleKeeps c ds) ds es)
element_kept c index items value k r ds es e is h =
    kind_filtered c (Constraint.Element index items value) r ds es e (subst (λ (n : ℕ). IfOk r (λ a. AreFiltered (ElementKeeps n ds) ds es)) is h)

pub no_terms_taken : (truth : Item) (ts : List (ℤ × ℕ)) (all : List Item) → all ≡ truth ∷ [] → all ≡ truth ∷ sum_places (take 0 ts)
unfolding sum_places
no_terms_taken truth ts all e = e

pub term_taken : (truth : Item) (ts : List (ℤ × ℕ)) (i : ℕ) (old new : List Item) → i < length ts → old ≡ truth ∷ sum_places (take i ts) → new ≡ old ++ Item.Var (variable_at ts i) ∷ [] → new ≡ truth ∷ sum_places (take (i + 1) ts)
term_taken truth ts i old new l e f =
    f ∙ (ap (λ (is : List Item). is ++ Item.Var (variable_at ts i) ∷ []) e ∙ ap (λ (is : List Item). truth ∷ is) (sym (sum_places-take_more ts i l)))

pub all_terms_taken : (truth : Item) (ts : List (ℤ × ℕ)) (i : ℕ) (all : List Item) → length ts ≤ i → all ≡ truth ∷ sum_places (take i ts) → all ≡ truth ∷ sum_places ts
all_terms_taken truth ts i all l e = e ∙ ap (λ (us : List (ℤ × ℕ)). truth ∷ sum_places us) (take_all i ts l)

-- ---- the terms of a sum have different variables

first_variable : (m n : ℕ) → Some (Item.Var m) ≡ Some (Item.Var n) → m ≡ n
first_variable m n e = variable_same m n (some_item (Item.Var m) (Item.Var n) e)

not_below : (least : ℕ) (ts : List (ℤ × ℕ)) (k n : ℕ) → IsSum least ts → slice_get (sum_places ts) k ≡ Some (Item.Var n) → least ≤ n
unfolding IsSum sum_places
not_below least [] k n s e = absurd (cc)
not_below least ((c, m) ∷ ts) zero n s e = let same : m ≡ n = first_variable m n e in let low : least ≤ m = s.2 in omega arith
not_below least ((c, m) ∷ ts) (suc k) n s e = let low : least ≤ m = s.2 in let next : suc m ≤ n = not_below (suc m) ts k n s.3 e in omega arith

one_term : (least : ℕ) (ts : List (ℤ × ℕ)) (j k n : ℕ) → IsSum least ts → slice_get (sum_places ts) j ≡ Some (Item.Var n) → slice_get (sum_places ts) k ≡ Some (Item.Var n) → j ≡ k
unfolding IsSum sum_places
one_term least [] j k n s e f = absurd (cc)
one_term least ((c, m) ∷ ts) zero zero n s e f = refl
one_term least ((c, m) ∷ ts) zero (suc k) n s e f = let same : m ≡ n = first_variable m n e in let next : suc m ≤ n = not_below (suc m) ts k n s.3 f in absurd (omega arith)
one_term least ((c, m) ∷ ts) (suc j) zero n s e f = let same : m ≡ n = first_variable m n f in let next : suc m ≤ n = not_below (suc m) ts j n s.3 e in absurd (omega arith)
one_term least ((c, m) ∷ ts) (suc j) (suc k) n s e f = ap suc (one_term (suc m) ts j k n s.3 e f)

pub sum_apart : (ts : List (ℤ × ℕ)) → IsSum 0 ts → AreApart (sum_places ts)
sum_apart ts s j k (inl e) = e
sum_apart ts s j k (inr h) = one_term 0 ts j k h.0 s h.1 h.2

pub linear_met : (c : Constraint) (rel : Rel) (ts : List (ℤ × ℕ)) (m : ℤ) (ds : List (List Span)) → c ≡ Constraint.Linear rel ts m → IsWithinLimits c → length ds ≡ length (places_of c) → AreMet (places_of c) ds ds
linear_met c rel ts m ds e limits count =
    let within : IsSumWithinLimits ts m = subst IsWithinLimits e limits in
    subst (λ (x : Constraint). AreMet (places_of x) ds ds) (sym e) (apart_met (sum_places ts) ds (sum_apart ts within.2) (subst (λ (x : Constraint). length ds ≡ length (places_of x)) e count))

-- what is met at the places of a kind is met at those of the constraint
pub kind_met : {A E : Type 0} (c d : Constraint) (items : List Item) (r : Result A E) (ds es : List (List Span)) → c ≡ d → items ≡ places_of d → IfOk r (λ a. AreMet items ds es) → IfOk r (λ a. AreMet (places_of c) ds es)
kind_met c d items r ds es e f h = subst (λ (is : List Item). IfOk r (λ a. AreMet is ds es)) (f ∙ ap places_of (sym e)) h

-- ---- all kinds

pub filter_left : (c : Constraint) (ds es fs : List (List Span)) → length ds ≡ length (places_of c) → HaveValues ds → AreFiltered (RuleKeeps c ds) ds es → AreMet (places_of c) es fs → AreLeft c ds fs
filter_left c ds es fs count some f g = record {
  count = g.count ∙ f.count;
  values = λ k n l. (
    λ t j b one.
        let p = (f.kept j n (omega (arith, count))).0 (((g.values k n (omega (arith, f.count))).0 t) j b one) in
        record { values = some; given = p.0; rule = p.1 },
    λ h. (g.values k n (omega (arith, f.count))).1 (λ j b one. let p = h j b one in (f.kept j n (omega (arith, count))).1 (p.given, p.rule)),
  );
}

pub none_left : (c : Constraint) (ds es : List (List Span)) → length ds ≡ length (places_of c) → (HaveValues ds → ⊥) → AreEmptied ds es → AreLeft c ds es
none_left c ds es count none f = record {
  count = f.count;
  values = λ k n l. (λ t. absurd (false≢true (sym (f.none k n) ∙ t)), λ h. absurd (none (h k (omega (arith, count)) (inl refl)).values));
}

-- ---- of `all_distinct`

pub distinct_left : (ds es : List (List Span)) → HaveValues ds → AreFiltered (DistinctKeeps ds) ds es → AreFiltered (DistinctLeaves ds) ds es
distinct_left ds es some f = record { count = f.count; kept = λ k n l. (λ t. let p = (f.kept k n l).0 t in (p.0, (some, p.1)), λ p. (f.kept k n l).1 (p.0, p.1.1)) }

pub no_distinct_left : (ds es : List (List Span)) → (HaveValues ds → ⊥) → AreEmptied ds es → AreFiltered (DistinctLeaves ds) ds es
no_distinct_left ds es none f = record { count = f.count; kept = λ k n l. (λ t. absurd (false≢true (sym (f.none k n) ∙ t)), λ p. absurd (none p.1.0)) }
