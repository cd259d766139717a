-- A list of different numbers has as many as the constraints that are due, where it has just these.
use Rattle.std.specs.Prelude.{◌≡◌, ◌↔◌, ℕ, zero, suc, ◌+◌, Bool, true, false, cond, List, [], ◌∷◌, ◌++◌, length, Some, slice_get, Contains, nat_eq, refl}
use Rattle.std.specs.Cmp.{nat_eq_equiv}
use Rattle.std.proofs.Common.{arith, sym, ◌∙◌, ap, subst, inl, inr, length-append}
use Rattle.std.proofs.lemmas.Bool.{eqb-true}
use Rattle.std.proofs.lemmas.Bool.Decides.{Decides-eqb}
use Rattle.std.proofs.lemmas.Map.Made.{length-from_same_keys, IsDistinct-from_AllPairs}
use Rattle.std.proofs.lemmas.Map.Views.{Contains-from_any, list_any-from_Contains}
use Rattle.std.proofs.lemmas.List.Elements.{Contains-append_left, Contains-append_right, Contains-append_cases}
use Rattle.std.specs.Set.{is_member}
use Rattle.pi_constraints.specs.declared.constraint.Constraint.{Constraint}
use Rattle.pi_constraints.specs.State.{State}
use Rattle.pi_settling.specs.Load.{is_due, count_due}
use Rattle.pi_settling.proofs.SizeLemmas.{none-there}
use Rattle.pi_queue.proofs.WaitingLemmas.{Differ, none-differ, one-differs, both-differ, only-one}

-- ---- lists of different numbers with the same members

same-tests : (b c : Bool) → (b ≡ true → c ≡ true) → (c ≡ true → b ≡ true) → b ≡ c
same-tests true c f g = sym (f refl)
same-tests false true f g = g refl
same-tests false false f g = refl

pub same-count : (xs ys : List ℕ) → Differ xs → Differ ys → ((i : ℕ) → Contains xs i ↔ Contains ys i) → length xs ≡ length ys
same-count xs ys first second same =
    length-from_same_keys nat_eq_equiv xs ys (IsDistinct-from_AllPairs Decides-eqb xs first) (IsDistinct-from_AllPairs Decides-eqb ys second) (λ q.
    same-tests (is_member nat_eq xs q) (is_member nat_eq ys q)
    (λ h. list_any-from_Contains nat_eq_equiv q ys ((same q).0 (Contains-from_any eqb-true q xs h)))
    (λ h. list_any-from_Contains nat_eq_equiv q xs ((same q).1 (Contains-from_any eqb-true q ys h))))

-- ---- the numbers of the constraints that are due

-- a constraint of these, numbered from the first number on, is due
pub record IsDueAt (before s : State) (from : ℕ) (cs : List Constraint) (i : ℕ) : Type 0 where
  pub place : ℕ
  pub constraint : Constraint
  pub there : slice_get cs place ≡ Some constraint
  pub number : i ≡ from + place
  pub is : is_due before s i constraint ≡ true

unfoldable numbers_due : State → State → ℕ → List Constraint → List ℕ
numbers_due before s i [] = []
numbers_due before s i (c ∷ cs) = cond (is_due before s i c) (i ∷ []) [] ++ numbers_due before s (suc i) cs

one-counts : (b : Bool) (i : ℕ) → length (cond b (i ∷ []) []) ≡ cond b 1 0
one-counts true i = refl
one-counts false i = refl

numbers-count : (before s : State) (i : ℕ) (cs : List Constraint) → length (numbers_due before s i cs) ≡ count_due before s i cs
unfolding numbers_due count_due
numbers-count before s i [] = refl
numbers-count before s i (c ∷ cs) =
    let rest : length (numbers_due before s (suc i) cs) ≡ count_due before s (suc i) cs = numbers-count before s (suc i) cs in
    length-append (cond (is_due before s i c) (i ∷ []) []) (numbers_due before s (suc i) cs)
    ∙ (ap (λ (n : ℕ). n + length (numbers_due before s (suc i) cs)) (one-counts (is_due before s i c) i) ∙ ap (λ (n : ℕ). cond (is_due before s i c) 1 0 + n) rest)

in-one : (b : Bool) (i j : ℕ) → Contains (cond b (i ∷ []) []) j → (j ≡ i) × (b ≡ true)
in-one true i j h = (only-one i j h, refl)
in-one false i j h = absurd (none-there j h)

to-one : (b : Bool) (i : ℕ) → b ≡ true → Contains (cond b (i ∷ []) []) i
to-one true i e = (0, omega arith, refl)
to-one false i e = absurd cc

numbers-are : (before s : State) (i : ℕ) (cs : List Constraint) (j : ℕ) → Contains (numbers_due before s i cs) j → IsDueAt before s i cs j
unfolding numbers_due
numbers-are before s i [] j h = absurd (none-there j h)
numbers-are before s i (c ∷ cs) j h = elim (Contains-append_cases (cond (is_due before s i c) (i ∷ []) []) (numbers_due before s (suc i) cs) j h) [
  | inl first ↦
      let one : (j ≡ i) × (is_due before s i c ≡ true) = in-one (is_due before s i c) i j first in
      record { place = 0; constraint = c; there = refl; number = omega (arith, one.0); is = subst (λ (k : ℕ). is_due before s k c ≡ true) (sym one.0) one.1 }
  | inr later ↦
      let rest : IsDueAt before s (suc i) cs j = numbers-are before s (suc i) cs j later in
      record { place = suc rest.place; constraint = rest.constraint; there = rest.there; number = omega (arith, rest.number); is = rest.is }
]

numbers-have : (before s : State) (i : ℕ) (cs : List Constraint) (k : ℕ) (c : Constraint) (j : ℕ) → slice_get cs k ≡ Some c → j ≡ i + k → is_due before s j c ≡ true → Contains (numbers_due before s i cs) j
unfolding numbers_due
numbers-have before s i [] k c j at number is = absurd cc
numbers-have before s i (d ∷ cs) zero c j at number is =
    let same : d ≡ c = cc in
    let here : j ≡ i = omega (arith, number) in
    let now : is_due before s i d ≡ true = subst (λ (k : ℕ). is_due before s k d ≡ true) here (subst (λ (e : Constraint). is_due before s j e ≡ true) (sym same) is) in
    Contains-append_left (cond (is_due before s i d) (i ∷ []) []) (numbers_due before s (suc i) cs) j
    (subst (Contains (cond (is_due before s i d) (i ∷ []) [])) (sym here) (to-one (is_due before s i d) i now))
numbers-have before s i (d ∷ cs) (suc k) c j at number is =
    Contains-append_right (cond (is_due before s i d) (i ∷ []) []) (numbers_due before s (suc i) cs) j (numbers-have before s (suc i) cs k c j at (omega (arith, number)) is)

one-differ : (b : Bool) (i : ℕ) → Differ (cond b (i ∷ []) [])
one-differ true i = one-differs i
one-differ false i = none-differ

numbers-differ : (before s : State) (i : ℕ) (cs : List Constraint) → Differ (numbers_due before s i cs)
unfolding numbers_due
numbers-differ before s i [] = none-differ
numbers-differ before s i (c ∷ cs) =
    both-differ (cond (is_due before s i c) (i ∷ []) []) (numbers_due before s (suc i) cs) (one-differ (is_due before s i c) i) (numbers-differ before s (suc i) cs) (λ j a b.
    let first : j ≡ i = (in-one (is_due before s i c) i j a).0 in
    let later : IsDueAt before s (suc i) cs j = numbers-are before s (suc i) cs j b in
    omega (arith, first, later.number))

pub count-is : (before s : State) (due : List ℕ) → Differ due → ((i : ℕ) → Contains due i ↔ IsDueAt before s 0 s.constraints i) → length due ≡ count_due before s 0 s.constraints
count-is before s due different same =
    same-count due (numbers_due before s 0 s.constraints) different (numbers-differ before s 0 s.constraints) (λ i. (
      λ h. let at : IsDueAt before s 0 s.constraints i = (same i).0 h in numbers-have before s 0 s.constraints at.place at.constraint i at.there at.number at.is,
      λ h. (same i).1 (numbers-are before s 0 s.constraints i h),
    )) ∙ numbers-count before s 0 s.constraints
