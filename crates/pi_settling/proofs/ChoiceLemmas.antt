-- The alternatives of a variable part its domain.
use Rattle.std.specs.Prelude.{◌≡◌, ◌⊎◌, ℕ, zero, suc, ◌-◌, ◌<◌, ℤ, pos, ◌<ℤ◌, int_le, true, false, IsTrue, List, [], ◌∷◌, length, map, reverse, get_or, AllPairs, refl}
use Rattle.std.specs.Ordering.{is_eq, int_cmp}
use Rattle.std.proofs.Common.{arith, sym, ◌∙◌, ap, inl, inr}
use Rattle.std.proofs.lemmas.Bool.{cases_Bool}
use Rattle.std.proofs.lemmas.Int.{ints}
use Rattle.std.proofs.lemmas.List.{length-map, length-reverse, get_or-map, get_or_default, get_or-reverse}
use Rattle.pi_constraints.specs.Domain.{values_of}
use Rattle.pi_constraints.proofs.DomainLemmas.{values_lie_in_spans, values_ascend}
use Rattle.pi_settling.specs.Options.{up, down, split, reverse_split}
use Rattle.pi_settling.specs.Choices.{is_value, at_most, above, allows, middle}
use Rattle.pi_settling.specs.LabelLaws.{OneAllows, AlternativesPartTheDomain}

-- a list of different numbers
abbrev AreDifferent : List ℤ → Type 0
AreDifferent ns = (j k : ℕ) → j < length ns → k < length ns → get_or ns j (pos 0) ≡ get_or ns k (pos 0) → j ≡ k

less_same_more : (j k : ℕ) → (j < k) ⊎ ((j ≡ k) ⊎ (k < j))
less_same_more j k = grind arith

ascending-differ : (ns : List ℤ) → AllPairs (λ (a b : ℤ). a <ℤ b) ns → AreDifferent ns
ascending-differ ns rise j k l m e = elim (less_same_more j k) [
  | inl less ↦ absurd (let h : get_or ns j (pos 0) <ℤ get_or ns k (pos 0) = rise j k (pos 0) less m in omega (arith, ints))
  | inr rest ↦ elim rest [
    | inl same ↦ same
    | inr more ↦ absurd (let h : get_or ns k (pos 0) <ℤ get_or ns j (pos 0) = rise k j (pos 0) more l in omega (arith, ints))
  ]
]

reversed-differ : (ns : List ℤ) → AreDifferent ns → AreDifferent (reverse ns)
reversed-differ ns different j k l m e =
    let many : length (reverse ns) ≡ length ns = length-reverse ns in
    let at_j = get_or-reverse ns j (pos 0) (omega arith) in
    let at_k = get_or-reverse ns k (pos 0) (omega arith) in
    let same : length ns - 1 - j ≡ length ns - 1 - k = different (length ns - 1 - j) (length ns - 1 - k) (omega arith) (omega arith) (sym at_j ∙ (e ∙ at_k)) in
    omega arith

is_allowed : (i m : ℤ) → m ≡ i → is_eq (int_cmp i m) ≡ true
is_allowed i m e = grind (arith, ints)

pub allowed_is : (i m : ℤ) → is_eq (int_cmp i m) ≡ true → m ≡ i
allowed_is i m e = grind (arith, ints)

value-at : (ns : List ℤ) (k : ℕ) → k < length ns → get_or (map is_value ns) k (is_value (pos 0)) ≡ is_value (get_or ns k (pos 0))
value-at ns k l = get_or-map is_value ns k (pos 0) (is_value (pos 0)) l

value-allowed : (ns : List ℤ) (k : ℕ) (i : ℤ) → k < length ns → IsTrue (allows (get_or (map is_value ns) k (is_value (pos 0))) i) → get_or ns k (pos 0) ≡ i
value-allowed ns k i l h = let e = value-at ns k l in allowed_is i (get_or ns k (pos 0)) (rw e at h)

one-of_values : (ns : List ℤ) (i : ℤ) (k : ℕ) → AreDifferent ns → k < length ns → get_or ns k (pos 0) ≡ i → OneAllows (map is_value ns) i
one-of_values ns i k different l e =
    let many : length (map is_value ns) ≡ length ns = length-map ns is_value in
    record {
      place = k;
      inside = omega arith;
      does = let at = value-at ns k l in rw at (is_allowed i (get_or ns k (pos 0)) e);
      only = λ j m h. let inside : j < length ns = omega arith in different j k inside l (value-allowed ns j i inside h ∙ sym e);
    }

one-of_halves : (m i : ℤ) → OneAllows (at_most m ∷ above m ∷ []) i
one-of_halves m i = elim (cases_Bool (int_le i m)) [
  | inl e ↦ record { place = 0; inside = omega arith; does = e; only = lower m i e }
  | inr e ↦ record { place = 1; inside = omega arith; does = rw e refl; only = upper m i e }
]
  where
    lower : (m i : ℤ) → int_le i m ≡ true → (j : ℕ) → j < 2 → IsTrue (allows (get_or (at_most m ∷ above m ∷ []) j (is_value (pos 0))) i) → j ≡ 0
    lower m i e zero l h = refl
    lower m i e (suc zero) l h = absurd (let none : IsTrue false = rw e at h in cc)
    lower m i e (suc (suc j)) l h = absurd (omega arith)

    upper : (m i : ℤ) → int_le i m ≡ false → (j : ℕ) → j < 2 → IsTrue (allows (get_or (at_most m ∷ above m ∷ []) j (is_value (pos 0))) i) → j ≡ 1
    upper m i e zero l h = absurd (let none : false ≡ true = sym e ∙ h in cc)
    upper m i e (suc zero) l h = refl
    upper m i e (suc (suc j)) l h = absurd (omega arith)

one-of_halves_reversed : (m i : ℤ) → OneAllows (above m ∷ at_most m ∷ []) i
one-of_halves_reversed m i = elim (cases_Bool (int_le i m)) [
  | inl e ↦ record { place = 1; inside = omega arith; does = e; only = lower m i e }
  | inr e ↦ record { place = 0; inside = omega arith; does = rw e refl; only = upper m i e }
]
  where
    lower : (m i : ℤ) → int_le i m ≡ true → (j : ℕ) → j < 2 → IsTrue (allows (get_or (above m ∷ at_most m ∷ []) j (is_value (pos 0))) i) → j ≡ 1
    lower m i e zero l h = absurd (let none : IsTrue false = rw e at h in cc)
    lower m i e (suc zero) l h = refl
    lower m i e (suc (suc j)) l h = absurd (omega arith)

    upper : (m i : ℤ) → int_le i m ≡ false → (j : ℕ) → j < 2 → IsTrue (allows (get_or (above m ∷ at_most m ∷ []) j (is_value (pos 0))) i) → j ≡ 0
    upper m i e zero l h = refl
    upper m i e (suc zero) l h = absurd (let none : false ≡ true = sym e ∙ h in cc)
    upper m i e (suc (suc j)) l h = absurd (omega arith)

pub alternatives_part_the_domain : AlternativesPartTheDomain
alternatives_part_the_domain up d i domain h =
    let at = (values_lie_in_spans d domain i).0 h in
    one-of_values (values_of d) i at.0 (ascending-differ (values_of d) (values_ascend d domain)) at.1 (get_or_default (values_of d) at.0 (pos 0) i at.1 ∙ at.2)
alternatives_part_the_domain down d i domain h =
    let ns : List ℤ = values_of d in
    let at = (values_lie_in_spans d domain i).0 h in
    let l : at.0 < length ns = at.1 in
    let many : length (reverse ns) ≡ length ns = length-reverse ns in
    let k : ℕ = length ns - 1 - at.0 in
    let inside : k < length ns = omega arith in
    let back : length ns - 1 - k ≡ at.0 = omega arith in
    one-of_values (reverse ns) i k (reversed-differ ns (ascending-differ ns (values_ascend d domain))) (omega arith)
    (get_or-reverse ns k (pos 0) inside ∙ (ap (λ (z : ℕ). get_or ns z (pos 0)) back ∙ (get_or_default ns at.0 (pos 0) i at.1 ∙ at.2)))
alternatives_part_the_domain split d i domain h = one-of_halves (middle d) i
alternatives_part_the_domain reverse_split d i domain h = one-of_halves_reversed (middle d) i
