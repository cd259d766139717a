-- How many numbers of a list lie in an interval: of different numbers no more than it has.
use Rattle.std.specs.Prelude.{◌≡◌, ◌≢◌, ◌⊎◌, ℕ, zero, suc, ◌<◌, ◌≤◌, ◌+◌, Bool, true, false, ◌&&◌, cond, List, [], ◌∷◌, length, ℤ, pos, ◌+ℤ◌, int_le, int_lt, refl}
use Rattle.std.specs.Ordering.{int_eq}
use Rattle.std.proofs.Common.{arith, sym, ◌∙◌, ap, subst, inl, inr}
use Rattle.std.proofs.lemmas.Int.{ints}
use Rattle.std.proofs.lemmas.Bool.{cases_Bool, and_parts, and_from}
use Rattle.std.proofs.lemmas.Bool.Decides.{Decides-int_eq}
use Rattle.pi_prop_spec.specs.Solutions.{AreDifferent}
use Rattle.pi_prop_spec.proofs.DifferentLaws.{value_in}

-- how many numbers pass a test
unfoldable pub count : (ℤ → Bool) → List ℤ → ℕ
count p [] = 0
count p (x ∷ xs) = cond (p x) (suc (count p xs)) (count p xs)

cond_at_most : (b c d : Bool) (m n k : ℕ) → (b ≡ true → (c ≡ true) ⊎ (d ≡ true)) → m ≤ n + k → cond b (suc m) m ≤ cond c (suc n) n + cond d (suc k) k
cond_at_most true true d m n k h l = elim d as (λ e. suc m ≤ suc n + cond e (suc k) k) [ true ↦ omega arith | false ↦ omega arith ]
cond_at_most true false true m n k h l = omega arith
cond_at_most true false false m n k h l = elim (h refl) [ inl e ↦ absurd (cc) | inr e ↦ absurd (cc) ]
cond_at_most false true true m n k h l = omega arith
cond_at_most false true false m n k h l = omega arith
cond_at_most false false true m n k h l = omega arith
cond_at_most false false false m n k h l = omega arith

-- what passes one test passes one of two others
count_split : (p q r : ℤ → Bool) (xs : List ℤ) → ((x : ℤ) → p x ≡ true → (q x ≡ true) ⊎ (r x ≡ true)) → count p xs ≤ count q xs + count r xs
unfolding count
count_split p q r [] h = omega arith
count_split p q r (x ∷ xs) h = cond_at_most (p x) (q x) (r x) (count p xs) (count q xs) (count r xs) (h x) (count_split p q r xs h)

count_none : (p : ℤ → Bool) (xs : List ℤ) → ((j : ℕ) → j < length xs → p (value_in xs j) ≡ false) → count p xs ≡ 0
unfolding count
count_none p [] h = refl
count_none p (x ∷ xs) h = ap (λ (b : Bool). cond b (suc (count p xs)) (count p xs)) (h 0 (omega arith)) ∙ count_none p xs (λ j l. h (suc j) (omega arith))

equal_test : (x y : ℤ) → int_eq x y ≡ true → x ≡ y
equal_test x y e = (Decides-int_eq x y).0 e

unequal_test : (x y : ℤ) → x ≢ y → int_eq x y ≡ false
unequal_test x y e = elim (cases_Bool (int_eq x y)) [ inl t ↦ absurd (e (equal_test x y t)) | inr f ↦ f ]

different_tail : (x : ℤ) (xs : List ℤ) → AreDifferent (x ∷ xs) → AreDifferent xs
different_tail x xs d = λ i j b l. d (suc i) (suc j) (omega arith) (omega arith)

count_one : (n : ℤ) (xs : List ℤ) → AreDifferent xs → count (λ x. int_eq x n) xs ≤ 1
unfolding count
count_one n [] d = omega arith
count_one n (x ∷ xs) d = elim (cases_Bool (int_eq x n)) [
  | inl e ↦
      let same : x ≡ n = equal_test x n e in
      let none : count (λ y. int_eq y n) xs ≡ 0 = count_none (λ y. int_eq y n) xs (λ j l. unequal_test (value_in xs j) n (λ s. d 0 (suc j) (omega arith) (omega arith) (same ∙ sym s))) in
      subst (λ (b : Bool). cond b (suc (count (λ y. int_eq y n) xs)) (count (λ y. int_eq y n) xs) ≤ 1) (sym e) (omega arith)
  | inr e ↦ subst (λ (b : Bool). cond b (suc (count (λ y. int_eq y n) xs)) (count (λ y. int_eq y n) xs) ≤ 1) (sym e) (count_one n xs (different_tail x xs d))
]

-- from a on, so many numbers
abbrev pub is_among : ℤ → ℕ → ℤ → Bool
is_among a w x = int_le a x && int_lt x (a +ℤ pos w)

among_none : (a x : ℤ) → is_among a 0 x ≡ false
among_none a x = elim (cases_Bool (is_among a 0 x)) [
  | inl t ↦ let p = and_parts (int_le a x) (int_lt x (a +ℤ pos 0)) t in let low = p.0 in let high = p.1 in absurd (omega (arith, ints))
  | inr f ↦ f
]

below_or_at : (a x : ℤ) (w : ℕ) → is_among a (suc w) x ≡ true → (is_among a w x ≡ true) ⊎ (int_eq x (a +ℤ pos w) ≡ true)
below_or_at a x w t =
    let p = and_parts (int_le a x) (int_lt x (a +ℤ pos (suc w))) t in
    elim (cases_Bool (int_lt x (a +ℤ pos w))) [
      | inl b ↦ inl (and_from (int_le a x) (int_lt x (a +ℤ pos w)) p.0 b)
      | inr b ↦ inr (let high = p.1 in let same : x ≡ a +ℤ pos w = omega (arith, ints) in (Decides-int_eq x (a +ℤ pos w)).1 same)
    ]

pub count_at_most : (a : ℤ) (w : ℕ) (xs : List ℤ) → AreDifferent xs → count (is_among a w) xs ≤ w
count_at_most a zero xs d = let none : count (is_among a 0) xs ≡ 0 = count_none (is_among a 0) xs (λ j l. among_none a (value_in xs j)) in omega arith
count_at_most a (suc w) xs d =
    let split = count_split (is_among a (suc w)) (is_among a w) (λ x. int_eq x (a +ℤ pos w)) xs (λ x t. below_or_at a x w t) in
    let rest = count_at_most a w xs d in
    let last = count_one (a +ℤ pos w) xs d in
    omega arith
