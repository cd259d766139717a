-- What sums keep, from the tests that their places passed.
use Rattle.std.specs.Prelude.{◌≡◌, ◌≢◌, ◌↔◌, ℕ, ◌+◌, ◌<◌, Bool, true, false, not, ◌&&◌, cond, IsTrue, List, length, drop, Option, Some, None, ℤ, pos, neg_ℤ, int_le, refl}
use Rattle.std.specs.Ordering.{int_eq}
use Rattle.std.proofs.Common.{arith, sym, ◌∙◌, ap, inl, inr, length-drop}
use Rattle.std.proofs.lemmas.Bool.{cases_eq, cases_Bool, and_parts, and_from, ne_eqb, eq-eqb}
use Rattle.std.proofs.lemmas.Bool.Decides.{Decides-int_eq}
use Rattle.pi_constraints.specs.declared.domain.Span.{Span}
use Rattle.pi_prop_spec.specs.Ends.{IsFixed}
use Rattle.pi_prop_spec.specs.Places.{domain_at}
use Rattle.pi_prop_spec.specs.Sums.{least_with, AtMostKeeps, negated, EqualKeeps, AreOthersFixed, UnequalKeeps}
use Rattle.pi_prop_places.specs.Changes.{AreCutFrom, AreFilteredFrom}
use Rattle.pi_prop_places.specs.Terms.{side_keeps, sides_keep}
use Rattle.pi_prop_places.specs.Roots.{ShowsOpen, roots_keep}
use Rattle.pi_prop_places.specs.declared.roots.Open.{Open}
use Rattle.pi_prop_places.proofs.CutLemmas.{filtered_from}
use Rattle.pi_prop_places.proofs.RoundLemmas.{le_test, test_le}

-- ---- sides

first_alone : (b : Bool) → (b && true) ≡ b
first_alone true = refl
first_alone false = refl

at_most_says : (above below : Option ℤ) (ts : List (ℤ × ℕ)) (m : ℤ) (ds : List (List Span)) (j : ℕ) (n : ℤ) → above ≡ Some m → below ≡ None → IsTrue (sides_keep above below ts ds j n) ↔ AtMostKeeps ts m ds j n
at_most_says above below ts m ds j n p q =
    let x : ℤ = least_with ts m ds j n in
    let e : sides_keep above below ts ds j n ≡ int_le x (pos 0) = (λ i. side_keeps (p i) ts ds j n && side_keeps (q i) (negated ts) ds j n) ∙ first_alone (int_le x (pos 0)) in
    (λ t. test_le x (pos 0) (sym e ∙ t), λ h. e ∙ le_test x (pos 0) h)

pub at_most_filtered : (first : ℕ) (ts : List (ℤ × ℕ)) (m : ℤ) (above below : Option ℤ) (ds es : List (List Span)) → above ≡ Some m → below ≡ None → length ds ≡ first + length ts
    → AreCutFrom first (length ts) (sides_keep above below ts (drop first ds)) ds es → AreFilteredFrom first (AtMostKeeps ts m (drop first ds)) ds es
at_most_filtered first ts m above below ds es p q c f =
    filtered_from first (length ts) (sides_keep above below ts (drop first ds)) (AtMostKeeps ts m (drop first ds)) ds es c f (λ j n l h. at_most_says above below ts m (drop first ds) j n p q)

equal_says : (above below : Option ℤ) (ts : List (ℤ × ℕ)) (m : ℤ) (ds : List (List Span)) (j : ℕ) (n : ℤ) → above ≡ Some m → below ≡ Some (neg_ℤ m) → IsTrue (sides_keep above below ts ds j n) ↔ EqualKeeps ts m ds j n
equal_says above below ts m ds j n p q =
    let x : ℤ = least_with ts m ds j n in
    let y : ℤ = least_with (negated ts) (neg_ℤ m) ds j n in
    let e : sides_keep above below ts ds j n ≡ (int_le x (pos 0) && int_le y (pos 0)) = (λ i. side_keeps (p i) ts ds j n && side_keeps (q i) (negated ts) ds j n) in (
      λ t. let both = and_parts (int_le x (pos 0)) (int_le y (pos 0)) (sym e ∙ t) in (test_le x (pos 0) both.0, test_le y (pos 0) both.1),
      λ h. e ∙ and_from (int_le x (pos 0)) (int_le y (pos 0)) (le_test x (pos 0) h.0) (le_test y (pos 0) h.1),
    )

pub equal_filtered : (first : ℕ) (ts : List (ℤ × ℕ)) (m : ℤ) (above below : Option ℤ) (ds es : List (List Span)) → above ≡ Some m → below ≡ Some (neg_ℤ m) → length ds ≡ first + length ts
    → AreCutFrom first (length ts) (sides_keep above below ts (drop first ds)) ds es → AreFilteredFrom first (EqualKeeps ts m (drop first ds)) ds es
equal_filtered first ts m above below ds es p q c f =
    filtered_from first (length ts) (sides_keep above below ts (drop first ds)) (EqualKeeps ts m (drop first ds)) ds es c f (λ j n l h. equal_says above below ts m (drop first ds) j n p q)

at_least_says : (above below : Option ℤ) (ts : List (ℤ × ℕ)) (m : ℤ) (ds : List (List Span)) (j : ℕ) (n : ℤ) → above ≡ None → below ≡ Some m → IsTrue (sides_keep above below ts ds j n) ↔ AtMostKeeps (negated ts) m ds j n
at_least_says above below ts m ds j n p q =
    let x : ℤ = least_with (negated ts) m ds j n in
    let e : sides_keep above below ts ds j n ≡ int_le x (pos 0) = (λ i. side_keeps (p i) ts ds j n && side_keeps (q i) (negated ts) ds j n) in
    (λ t. test_le x (pos 0) (sym e ∙ t), λ h. e ∙ le_test x (pos 0) h)

pub at_least_filtered : (first : ℕ) (ts : List (ℤ × ℕ)) (m : ℤ) (above below : Option ℤ) (ds es : List (List Span)) → above ≡ None → below ≡ Some m → length ds ≡ first + length ts
    → AreCutFrom first (length ts) (sides_keep above below ts (drop first ds)) ds es → AreFilteredFrom first (AtMostKeeps (negated ts) m (drop first ds)) ds es
at_least_filtered first ts m above below ds es p q c f =
    filtered_from first (length ts) (sides_keep above below ts (drop first ds)) (AtMostKeeps (negated ts) m (drop first ds)) ds es c f (λ j n l h. at_least_says above below ts m (drop first ds) j n p q)

-- ---- roots

clash : (b : Bool) → b ≡ true → not b ≡ true → ⊥
clash true t n = absurd (cc)
clash false t n = absurd (cc)

other_number : (x : ℤ) → IsTrue (not (int_eq x (pos 0))) ↔ (x ≢ pos 0)
other_number x = (λ t e. clash (int_eq x (pos 0)) ((Decides-int_eq x (pos 0)).1 e) t, λ h. elim (cases_Bool (int_eq x (pos 0))) [ inl e ↦ absurd (h ((Decides-int_eq x (pos 0)).0 e)) | inr e ↦ ap not e ])

here : (i : ℕ) (ts : List (ℤ × ℕ)) (m : ℤ) (ds : List (List Span)) (many j : ℕ) (n : ℤ) → length ds ≡ many → j < many → ShowsOpen ds many (Open.Once i) → j ≡ i → IsTrue (roots_keep (Open.Once i) ts m ds j n) ↔ UnequalKeeps ts m ds j n
here i ts m ds many j n c l s e =
    let x : ℤ = least_with ts m ds j n in
    let same : roots_keep (Open.Once i) ts m ds j n ≡ not (int_eq x (pos 0)) = ap (λ (b : Bool). cond b (not (int_eq x (pos 0))) true) (eq-eqb j i e) in (
      λ t fixed. (other_number x).0 (sym same ∙ t),
      λ h. same ∙ (other_number x).1 (h (λ k b o. s.2 k (omega arith) (λ f. o (f ∙ sym e)))),
    )

elsewhere : (i : ℕ) (ts : List (ℤ × ℕ)) (m : ℤ) (ds : List (List Span)) (many j : ℕ) (n : ℤ) → length ds ≡ many → j < many → ShowsOpen ds many (Open.Once i) → (j ≡ i → ⊥) → IsTrue (roots_keep (Open.Once i) ts m ds j n) ↔ UnequalKeeps ts m ds j n
elsewhere i ts m ds many j n c l s o =
    let x : ℤ = least_with ts m ds j n in
    let same : roots_keep (Open.Once i) ts m ds j n ≡ true = ap (λ (b : Bool). cond b (not (int_eq x (pos 0))) true) (ne_eqb j i o) in
    (λ t fixed. absurd (s.1 (fixed i (omega (arith, s.0)) (λ e. o (sym e)))), λ h. same)

two_open : (ds : List (List Span)) (many j p q : ℕ) → length ds ≡ many → p < q → q < many → (IsFixed (domain_at ds p) → ⊥) → (IsFixed (domain_at ds q) → ⊥) → AreOthersFixed ds j → ⊥
two_open ds many j p q c l m f g fixed = elim (cases_eq p j) [
  | inl e ↦ g (fixed q (omega arith) (λ h. omega arith))
  | inr o ↦ f (fixed p (omega arith) o)
]

roots_say : (open_ : Open) (ts : List (ℤ × ℕ)) (m : ℤ) (ds : List (List Span)) (many j : ℕ) (n : ℤ) → length ds ≡ many → j < many → ShowsOpen ds many open_ → IsTrue (roots_keep open_ ts m ds j n) ↔ UnequalKeeps ts m ds j n
roots_say Open.Nowhere ts m ds many j n c l s = (λ t fixed. (other_number (least_with ts m ds j n)).0 t, λ h. (other_number (least_with ts m ds j n)).1 (h (λ i b o. s i (omega arith))))
roots_say (Open.Once i) ts m ds many j n c l s = elim (cases_eq j i) [
  | inl e ↦ here i ts m ds many j n c l s e
  | inr o ↦ elsewhere i ts m ds many j n c l s o
]
roots_say Open.Often ts m ds many j n c l s = (λ t fixed. absurd (two_open ds many j s.0 s.1 c s.2 s.3 s.4 s.5 fixed), λ h. refl)

pub roots_filtered : (first : ℕ) (ts : List (ℤ × ℕ)) (m : ℤ) (open_ : Open) (ds es : List (List Span)) → length ds ≡ first + length ts → ShowsOpen (drop first ds) (length ts) open_
    → AreCutFrom first (length ts) (roots_keep open_ ts m (drop first ds)) ds es → AreFilteredFrom first (UnequalKeeps ts m (drop first ds)) ds es
roots_filtered first ts m open_ ds es c s f =
    let count : length (drop first ds) ≡ length ts = length-drop first ds ∙ omega arith in
    filtered_from first (length ts) (roots_keep open_ ts m (drop first ds)) (UnequalKeeps ts m (drop first ds)) ds es c f (λ j n l h. roots_say open_ ts m (drop first ds) (length ts) j n count l s)
