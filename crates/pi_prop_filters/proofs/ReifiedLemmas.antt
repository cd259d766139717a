-- What a reified sum keeps, from what the truth and the terms were left.
use Rattle.std.specs.Prelude.{true, ◌≤ℤ◌, ◌≤◌, ◌&&◌, cond, int_le, nat_abs, ◌≡◌, ◌≢◌, ◌↔◌, ℕ, zero, suc, ◌+◌, ◌<◌, Bool, false, IsTrue, List, [], length, ℤ, pos, refl}
use Rattle.std.specs.Int.{w128}
use Rattle.std.proofs.Common.{arith, sym, ◌∙◌, ap, subst, to_z, of_z, inl, inr, length-drop}
use Rattle.std.proofs.lemmas.Bool.{false≢true}
use Rattle.std.proofs.lemmas.Int.{ints, by_lt_z}
use Rattle.pi_constraints.specs.declared.constraint.Rel.{Rel}
use Rattle.pi_constraints.specs.declared.domain.Span.{Span}
use Rattle.pi_constraints.specs.Domain.{has_value}
use Rattle.pi_prop_spec.specs.Ends.{IsFixedTo}
use Rattle.pi_prop_spec.specs.Places.{domain_at, HaveValues}
use Rattle.pi_prop_spec.proofs.EndLemmas.{not_empty}
use Rattle.pi_prop_spec.specs.Sums.{SumKeeps, OppositeKeeps}
use Rattle.pi_prop_spec.specs.Reified.{LeavesValues, of_terms, ReifiedKeeps}
use Rattle.pi_prop_places.specs.Changes.{IsCutAt, IsKeptAt, AreFiltered, AreFilteredFrom}
use Rattle.pi_prop_filters.specs.Terms.{TermKeeps, TruthKeeps}
use Rattle.pi_prop_places.proofs.KeepLemmas.{keep_cut}
use Rattle.pi_prop_filters.proofs.BitLemmas.{back}
use Rattle.pi_prop_filters.proofs.ProductLemmas.{between_test}
use Rattle.pi_prop_filters.proofs.LeaveLemmas.{behind}

-- the truth has the value n, and a filter leaves each term a value
abbrev pub CanBe : (ℕ → ℤ → Type 0) → List (List Span) → ℤ → Type 0
CanBe Kept ds n = IsTrue (has_value (domain_at ds 0) n) × LeavesValues Kept (of_terms ds)

truth_says : (rel : Rel) (ts : List (ℤ × ℕ)) (m : ℤ) (ds : List (List Span)) (n : ℤ) (holds fails : Bool) → IsTrue holds ↔ CanBe (SumKeeps rel ts m (of_terms ds)) ds (pos 1) → IsTrue fails ↔ CanBe (OppositeKeeps rel ts m (of_terms ds)) ds (pos 0)
    → IsTrue (has_value (domain_at ds 0) n) → TruthKeeps holds fails n ↔ ReifiedKeeps rel ts m ds 0 n
truth_says rel ts m ds n holds fails f g value = (
  λ h. record {
    truth = λ at. elim h [ inl y ↦ inl (y.0, (f.0 y.1).1) | inr y ↦ inr (y.0, (g.0 y.1).1) ];
    holds = λ j at. absurd (omega arith);
    fails = λ j at. absurd (omega arith);
  },
  λ h. elim (h.truth refl) [
    | inl y ↦ inl (y.0, f.1 (subst (λ (z : ℤ). IsTrue (has_value (domain_at ds 0) z)) y.0 value, y.1))
    | inr y ↦ inr (y.0, g.1 (subst (λ (z : ℤ). IsTrue (has_value (domain_at ds 0) z)) y.0 value, y.1))
  ],
)

same_place : (i j : ℕ) → suc j ≡ suc i → j ≡ i
same_place i j e = omega arith

term_says : (rel : Rel) (ts : List (ℤ × ℕ)) (m : ℤ) (ds : List (List Span)) (j : ℕ) (n : ℤ) → TermKeeps rel ts m ds j n ↔ ReifiedKeeps rel ts m ds (suc j) n
term_says rel ts m ds j n = (
  λ h. record {
    truth = λ at. absurd (omega arith);
    holds = λ i at fixed. subst (λ (k : ℕ). SumKeeps rel ts m (of_terms ds) k n) (same_place i j at) (h.0 fixed);
    fails = λ i at fixed. subst (λ (k : ℕ). OppositeKeeps rel ts m (of_terms ds) k n) (same_place i j at) (h.1 fixed);
  },
  λ h. (λ fixed. h.holds j refl fixed, λ fixed. h.fails j refl fixed),
)

kept_at : (rel : Rel) (ts : List (ℤ × ℕ)) (m : ℤ) (ds es fs : List (List Span)) (holds fails : Bool) → IsTrue holds ↔ CanBe (SumKeeps rel ts m (of_terms ds)) ds (pos 1) → IsTrue fails ↔ CanBe (OppositeKeeps rel ts m (of_terms ds)) ds (pos 0)
    → AreFilteredFrom 1 (TermKeeps rel ts m ds) ds es → IsKeptAt 0 (TruthKeeps holds fails) es fs
    → (k : ℕ) (n : ℤ) → k < length ds → IsTrue (has_value (domain_at fs k) n) ↔ (IsTrue (has_value (domain_at ds k) n) × ReifiedKeeps rel ts m ds k n)
kept_at rel ts m ds es fs holds fails f g terms truth zero n l =
    let same : domain_at es 0 ≡ domain_at ds 0 = terms.before 0 (omega arith) in
    let here : IsTrue (has_value (domain_at fs 0) n) ↔ (IsTrue (has_value (domain_at ds 0) n) × TruthKeeps holds fails n) =
    subst (λ (d : List Span). IsTrue (has_value (domain_at fs 0) n) ↔ (IsTrue (has_value d n) × TruthKeeps holds fails n)) same (truth.here n) in (
      λ t. let p = here.0 t in (p.0, (truth_says rel ts m ds n holds fails f g p.0).0 p.1),
      λ p. here.1 (p.0, (truth_says rel ts m ds n holds fails f g p.0).1 p.1),
    )
kept_at rel ts m ds es fs holds fails f g terms truth (suc j) n l =
    let next : 1 + j ≡ suc j = omega arith in
    let kept : IsTrue (has_value (domain_at es (suc j)) n) ↔ (IsTrue (has_value (domain_at ds (suc j)) n) × TermKeeps rel ts m ds j n) =
    subst (λ (k : ℕ). IsTrue (has_value (domain_at es k) n) ↔ (IsTrue (has_value (domain_at ds k) n) × TermKeeps rel ts m ds j n)) next (terms.kept j n (omega arith)) in
    let here : IsTrue (has_value (domain_at fs (suc j)) n) ↔ (IsTrue (has_value (domain_at ds (suc j)) n) × TermKeeps rel ts m ds j n) =
    subst (λ (d : List Span). IsTrue (has_value d n) ↔ (IsTrue (has_value (domain_at ds (suc j)) n) × TermKeeps rel ts m ds j n)) (sym (truth.others (suc j) (λ e. omega arith))) kept in (
      λ t. let p = here.0 t in (p.0, (term_says rel ts m ds j n).0 p.1),
      λ p. here.1 (p.0, (term_says rel ts m ds j n).1 p.1),
    )

pub reified_filtered : (rel : Rel) (ts : List (ℤ × ℕ)) (m : ℤ) (ds es fs : List (List Span)) (holds fails : Bool) → IsTrue holds ↔ CanBe (SumKeeps rel ts m (of_terms ds)) ds (pos 1) → IsTrue fails ↔ CanBe (OppositeKeeps rel ts m (of_terms ds)) ds (pos 0)
    → AreFilteredFrom 1 (TermKeeps rel ts m ds) ds es → IsKeptAt 0 (TruthKeeps holds fails) es fs → AreFiltered (ReifiedKeeps rel ts m ds) ds fs
reified_filtered rel ts m ds es fs holds fails f g terms truth = record {
  count = truth.count ∙ terms.count;
  kept = kept_at rel ts m ds es fs holds fails f g terms truth;
}

-- ---- the terms by the truth

-- where the truth isn't fixed all is left
pub idle_terms : (rel : Rel) (ts : List (ℤ × ℕ)) (m : ℤ) (ds : List (List Span)) → (IsFixedTo (domain_at ds 0) (pos 1) → ⊥) → (IsFixedTo (domain_at ds 0) (pos 0) → ⊥) → AreFilteredFrom 1 (TermKeeps rel ts m ds) ds ds
idle_terms rel ts m ds one none = record {
  count = refl;
  before = λ j l. refl;
  kept = λ j n l. (λ t. (t, (λ fixed. absurd (one fixed), λ fixed. absurd (none fixed))), λ p. p.0);
}

two_truths : (d : List Span) → IsFixedTo d (pos 1) → IsFixedTo d (pos 0) → ⊥
two_truths d one none = let same : pos 1 ≡ pos 0 = sym one.0 ∙ none.0 in absurd (cc)

pub true_terms : (rel : Rel) (ts : List (ℤ × ℕ)) (m : ℤ) (ds es : List (List Span)) → IsFixedTo (domain_at ds 0) (pos 1) → AreFilteredFrom 1 (SumKeeps rel ts m (of_terms ds)) ds es → AreFilteredFrom 1 (TermKeeps rel ts m ds) ds es
true_terms rel ts m ds es one f = record {
  count = f.count;
  before = f.before;
  kept = λ j n l. (
    λ t. let p = (f.kept j n l).0 t in (p.0, (λ fixed. p.1, λ none. absurd (two_truths (domain_at ds 0) one none))),
    λ p. (f.kept j n l).1 (p.0, p.1.0 one),
  );
}

pub false_terms : (rel : Rel) (ts : List (ℤ × ℕ)) (m : ℤ) (ds es : List (List Span)) → IsFixedTo (domain_at ds 0) (pos 0) → AreFilteredFrom 1 (OppositeKeeps rel ts m (of_terms ds)) ds es → AreFilteredFrom 1 (TermKeeps rel ts m ds) ds es
false_terms rel ts m ds es none f = record {
  count = f.count;
  before = f.before;
  kept = λ j n l. (
    λ t. let p = (f.kept j n l).0 t in (p.0, (λ one. absurd (two_truths (domain_at ds 0) one none), λ fixed. p.1)),
    λ p. (f.kept j n l).1 (p.0, p.1.1 none),
  );
}

-- ---- the truth by its ends

truth_between : (holds fails : Bool) (n : ℤ) → ((cond fails (pos 0) (pos 1) ≤ℤ n) × (n ≤ℤ cond holds (pos 1) (pos 0))) ↔ TruthKeeps holds fails n
truth_between true true n = (
  λ p. by_lt_z (pos 0) n (λ l. inl (omega (arith, ints, p.1, l), refl)) (λ l. inr (omega (arith, ints, p.0, l), refl)),
  λ h. elim h [ inl y ↦ (omega (arith, ints, y.0), omega (arith, ints, y.0)) | inr y ↦ (omega (arith, ints, y.0), omega (arith, ints, y.0)) ],
)
truth_between true false n = (
  λ p. inl (omega (arith, ints, p.0, p.1), refl),
  λ h. elim h [ inl y ↦ (omega (arith, ints, y.0), omega (arith, ints, y.0)) | inr y ↦ absurd (false≢true y.1) ],
)
truth_between false true n = (
  λ p. inr (omega (arith, ints, p.0, p.1), refl),
  λ h. elim h [ inl y ↦ absurd (false≢true y.1) | inr y ↦ (omega (arith, ints, y.0), omega (arith, ints, y.0)) ],
)
truth_between false false n = (
  λ p. absurd (omega (arith, ints, p.0, p.1)),
  λ h. elim h [ inl y ↦ absurd (false≢true y.1) | inr y ↦ absurd (false≢true y.1) ],
)

end_back : (b : Bool) (m n x : ℤ) → nat_abs m ≤ 1 → nat_abs n ≤ 1 → x ≡ cond b m n → to_z w128 (of_z w128 x) ≡ cond b m n
end_back true m n x f g e = ap (λ (z : ℤ). to_z w128 (of_z w128 z)) e ∙ back m (omega (arith, f))
end_back false m n x f g e = ap (λ (z : ℤ). to_z w128 (of_z w128 z)) e ∙ back n (omega (arith, g))

pub truth_kept : (holds fails : Bool) (least greatest : ℤ) (ds es : List (List Span)) → least ≡ cond fails (pos 0) (pos 1) → greatest ≡ cond holds (pos 1) (pos 0)
    → IsCutAt 0 (λ n. int_le (to_z w128 (of_z w128 least)) n && int_le n (to_z w128 (of_z w128 greatest))) ds es → IsKeptAt 0 (TruthKeeps holds fails) ds es
truth_kept holds fails least greatest ds es e f cut =
    let low : ℤ = to_z w128 (of_z w128 least) in
    let high : ℤ = to_z w128 (of_z w128 greatest) in
    let lows : low ≡ cond fails (pos 0) (pos 1) = end_back fails (pos 0) (pos 1) least (omega arith) (omega arith) e in
    let highs : high ≡ cond holds (pos 1) (pos 0) = end_back holds (pos 1) (pos 0) greatest (omega arith) (omega arith) f in
    keep_cut 0 (λ n. int_le low n && int_le n high) (TruthKeeps holds fails) ds es
    (λ n h. (
      λ t. let p = (between_test low high n).0 t in (truth_between holds fails n).0 (subst (λ (z : ℤ). z ≤ℤ n) lows p.0, subst (λ (z : ℤ). n ≤ℤ z) highs p.1),
      λ k. let p = (truth_between holds fails n).1 k in (between_test low high n).1 (subst (λ (z : ℤ). z ≤ℤ n) (sym lows) p.0, subst (λ (z : ℤ). n ≤ℤ z) (sym highs) p.1),
    )) cut

-- ---- whether the truth can be a value

-- one rule, as the code names it
pub same_rule : (b : Bool) (Kept : Rel → ℤ → ℕ → ℤ → Type 0) (ds : List (List Span)) (rel r : Rel) (m n : ℤ) → rel ≡ r → n ≡ m → IsTrue b ↔ LeavesValues (Kept r n) ds → IsTrue b ↔ LeavesValues (Kept rel m) ds
same_rule b Kept ds rel r m n e f h = subst (λ (z : ℤ). IsTrue b ↔ LeavesValues (Kept rel z) ds) f (subst (λ (q : Rel). IsTrue b ↔ LeavesValues (Kept q n) ds) (sym e) h)

values_at : (Kept : ℕ → ℤ → Type 0) (ds : List (List Span)) (n : ℤ) → CanBe Kept ds n → (k : ℕ) → k < length ds → domain_at ds k ≢ []
values_at Kept ds n h zero l = not_empty (domain_at ds 0) n h.0
values_at Kept ds n h (suc j) l =
    let inside : j < length (of_terms ds) = omega (arith, length-drop 1 ds) in
    let v = h.1 j inside in
    let next : 1 + j ≡ suc j = omega arith in
    subst (λ (k : ℕ). domain_at ds k ≢ []) next (subst (λ (d : List Span). d ≢ []) (behind ds j) (not_empty (domain_at (of_terms ds) j) v.0 v.1))

-- where a place has no value it can be none
pub none_can_be : (Kept : ℕ → ℤ → Type 0) (ds : List (List Span)) (n : ℤ) (b : Bool) → b ≡ false → (HaveValues ds → ⊥) → IsTrue b ↔ CanBe Kept ds n
none_can_be Kept ds n b e none = (λ t. absurd (false≢true (sym e ∙ t)), λ h. absurd (none (values_at Kept ds n h)))

pub no_value_can_be : (Kept : ℕ → ℤ → Type 0) (ds : List (List Span)) (n : ℤ) (b v : Bool) → b ≡ false → v ≡ false → v ≡ has_value (domain_at ds 0) n → IsTrue b ↔ CanBe Kept ds n
no_value_can_be Kept ds n b v e f is = (λ t. absurd (false≢true (sym e ∙ t)), λ h. absurd (false≢true (sym f ∙ (is ∙ h.0))))

pub some_can_be : (Kept : ℕ → ℤ → Type 0) (ds : List (List Span)) (n : ℤ) (b : Bool) → IsTrue (has_value (domain_at ds 0) n) → IsTrue b ↔ LeavesValues Kept (of_terms ds) → IsTrue b ↔ CanBe Kept ds n
some_can_be Kept ds n b here h = (λ t. (here, h.0 t), λ p. h.1 p.1)
