-- Numbers that were met, each with its place.
use Rattle.std.proofs.Common.{◌==◌, ◌∙◌, ◌||◌, ap, subst, zero, suc, cond, ◌≤◌, ◌<◌, ◌+◌, length, Some, None, nat_lt, ◌≡◌, ℕ, Bool, true, false, refl, List, [], ◌∷◌, ◌++◌, inl, inr, sym, arith, Option, eqb-true, eq-eqb}
use Rattle.std.specs.Prelude.{Contains, nat_eq, is_some, IsSome}
use Rattle.std.specs.List.{list_any, position, position_or_len}
use Rattle.std.proofs.lemmas.Bool.{cases_Bool, lt-ltb, ltb-true, le-ltb, ltb-false}
use Rattle.std.proofs.lemmas.List.Folds.{position_or_len_push}
use Rattle.std.proofs.lemmas.List.Sums.{prefix_len-le-length}
use Rattle.std.proofs.lemmas.List.{length-append}
use Rattle.std.proofs.Math.Bool.{or-true}
use Rattle.std.proofs.Math.Path.{fun_ext}
use Rattle.pi_terms.specs.Copy.{place_in}
use Rattle.pi_terms.specs.Numbers.{noted}

-- ---- the first place that passes a test

place-at : (p : ℕ → Bool) (xs : List ℕ) (k : ℕ) → position_or_len p xs ≡ k → k < length xs → position p xs ≡ Some k
place-at p xs k e within = rw (lt-ltb (position_or_len p xs) (length xs) (omega (arith, e, within))) (ap Some e)

no-place-at : (p : ℕ → Bool) (xs : List ℕ) → length xs ≤ position_or_len p xs → position p xs ≡ None
no-place-at p xs past = rw (le-ltb (position_or_len p xs) (length xs) past) refl

some-test : (b : Bool) (k : ℕ) → is_some (cond b (Some k) None) ≡ b
some-test true k = refl
some-test false k = refl

some-is : (b : Bool) (k j : ℕ) → cond b (Some k) None ≡ Some j → (b ≡ true) × (k ≡ j)
some-is true k j e = (refl, cc)
some-is false k j e = absurd (cc)

none-is : (b : Bool) (k : ℕ) → cond b (Some k) None ≡ None → b ≡ false
none-is true k e = absurd (cc)
none-is false k e = refl

shifted : (j k : ℕ) → nat_lt (1 + j) (suc k) ≡ nat_lt j k
shifted j k = elim (cases_Bool (nat_lt j k)) [
  | inl less ↦ lt-ltb (1 + j) (suc k) (omega (arith, ltb-true j k less)) ∙ sym less
  | inr other ↦ le-ltb (1 + j) (suc k) (omega (arith, ltb-false j k other)) ∙ sym other
]

any-within : (p : ℕ → Bool) (xs : List ℕ) → nat_lt (position_or_len p xs) (length xs) ≡ list_any p xs
any-within p [] = refl
any-within p (x ∷ xs) = elim (cases_Bool (p x)) [
  | inl hit ↦ rw hit (lt-ltb 0 (suc (length xs)) (omega arith))
  | inr miss ↦ rw miss (shifted (position_or_len p xs) (length xs) ∙ any-within p xs)
]

has-place : (p : ℕ → Bool) (xs : List ℕ) → is_some (position p xs) ≡ list_any p xs
has-place p xs = some-test (nat_lt (position_or_len p xs) (length xs)) (position_or_len p xs) ∙ any-within p xs

-- ---- the place of a number

same-test : (n m : ℕ) → nat_eq n m ≡ (m == n)
same-test n m = elim (cases_Bool (nat_eq n m)) [
  | inl hit ↦ hit ∙ sym (eq-eqb m n (sym (eqb-true n m hit)))
  | inr miss ↦ elim (cases_Bool (m == n)) [
    | inl there ↦ let here : nat_eq n m ≡ true = eq-eqb n m (sym (eqb-true m n there)) in cc
    | inr other ↦ miss ∙ sym other
  ]
]

first-place : (xs : List ℕ) (n : ℕ) → place_in xs n ≡ position_or_len (nat_eq n) xs
first-place xs n = ap (λ p. position_or_len p xs) (fun_ext (λ m. sym (same-test n m)))

any-from : (xs : List ℕ) (n : ℕ) → Contains xs n → list_any (nat_eq n) xs ≡ true
any-from [] n has = absurd (omega (arith, has.1))
any-from (x ∷ xs) n (zero, within, is) = rw (eq-eqb n x (sym is)) refl
any-from (x ∷ xs) n (suc k, within, is) = ap (λ b. nat_eq n x || b) (any-from xs n (k, omega (arith, within), is)) ∙ or-true (nat_eq n x)

-- a number of the list has a place
pub some-place : (xs : List ℕ) (n : ℕ) → Contains xs n → IsSome (position (nat_eq n) xs)
some-place xs n has = has-place (nat_eq n) xs ∙ any-from xs n has

-- it is this one
pub place-is : (xs : List ℕ) (n k : ℕ) → position (nat_eq n) xs ≡ Some k → (k ≡ place_in xs n) × (k < length xs)
place-is xs n k e =
    let here : ℕ = position_or_len (nat_eq n) xs in
    let is : (nat_lt here (length xs) ≡ true) × (here ≡ k) = some-is (nat_lt here (length xs)) here k e in
    let within : here < length xs = ltb-true here (length xs) is.0 in
    (sym (first-place xs n ∙ is.1), omega (arith, within, is.1))

-- a number that has no place would get the next one
pub no-place : (xs : List ℕ) (n : ℕ) → position (nat_eq n) xs ≡ None → place_in xs n ≡ length xs
no-place xs n none =
    let here : ℕ = position_or_len (nat_eq n) xs in
    let past : length xs ≤ here = ltb-false here (length xs) (none-is (nat_lt here (length xs)) here none) in
    let within : here ≤ length xs = prefix_len-le-length _ xs in
    omega (arith, first-place xs n, past, within)

-- ---- one more is met

pub known : (xs : List ℕ) (n : ℕ) → is_some (position (nat_eq n) xs) ≡ true → xs ≡ noted xs n
known xs n some = rw (sym (has-place (nat_eq n) xs) ∙ some) refl

pub new : (xs : List ℕ) (n : ℕ) → is_some (position (nat_eq n) xs) ≡ false → xs ++ n ∷ [] ≡ noted xs n
new xs n none = rw (sym (has-place (nat_eq n) xs) ∙ none) refl

-- ---- the places behind that

apart : (n m : ℕ) → nat_eq n m ≡ false → nat_eq m n ≡ false
apart n m miss = elim (cases_Bool (nat_eq m n)) [
  | inl hit ↦ let same : nat_eq n m ≡ true = eq-eqb n m (sym (eqb-true m n hit)) in absurd (cc)
  | inr other ↦ other
]

less-apart : (j k : ℕ) → j < k → (j == k) ≡ false
less-apart j k less = elim (cases_Bool (j == k)) [
  | inl hit ↦ absurd (omega (arith, less, eqb-true j k hit))
  | inr other ↦ other
]

-- a new number stands at the end
its-place : (xs : List ℕ) (n : ℕ) → length xs ≤ position_or_len (nat_eq n) xs → position_or_len (nat_eq n) (xs ++ n ∷ []) ≡ length xs
its-place xs n past =
    let within : position_or_len (nat_eq n) xs ≤ length xs = prefix_len-le-length _ xs in
    let at : position_or_len (nat_eq n) (xs ++ n ∷ []) ≡ length xs + 0 =
    position_or_len_push (nat_eq n) xs n ∙ rw (eq-eqb (position_or_len (nat_eq n) xs) (length xs) (omega (arith, past, within)), eq-eqb n n refl) refl in
    omega (arith, at)

longer : (xs : List ℕ) (n : ℕ) → length (xs ++ n ∷ []) ≡ length xs + 1
longer xs n = length-append xs (n ∷ [])

-- any other stays where it is
others-stay : (xs : List ℕ) (n m : ℕ) → nat_eq n m ≡ false → position (nat_eq m) xs ≡ position (nat_eq m) (xs ++ n ∷ [])
others-stay xs n m miss =
    let here : ℕ = position_or_len (nat_eq m) xs in
    let within : here ≤ length xs = prefix_len-le-length _ xs in
    elim (cases_Bool (nat_lt here (length xs))) [
      | inl there ↦
          let before : here < length xs = ltb-true here (length xs) there in
          let stays : position_or_len (nat_eq m) (xs ++ n ∷ []) ≡ here = position_or_len_push (nat_eq m) xs n ∙ rw (less-apart here (length xs) before) refl in
          place-at (nat_eq m) xs here refl before ∙ sym (place-at (nat_eq m) (xs ++ n ∷ []) here stays (omega (arith, before, longer xs n)))
      | inr none ↦
          let past : length xs ≤ here = ltb-false here (length xs) none in
          let at : position_or_len (nat_eq m) (xs ++ n ∷ []) ≡ length xs + 1 =
          position_or_len_push (nat_eq m) xs n ∙ rw (eq-eqb here (length xs) (omega (arith, past, within)), apart n m miss) refl in
          no-place-at (nat_eq m) xs past ∙ sym (no-place-at (nat_eq m) (xs ++ n ∷ []) (omega (arith, at, longer xs n)))
    ]

placed : (xs : List ℕ) (n : ℕ) → length xs ≤ position_or_len (nat_eq n) xs → (m : ℕ) → cond (nat_eq n m) (Some (length xs)) (position (nat_eq m) xs) ≡ position (nat_eq m) (xs ++ n ∷ [])
placed xs n past m = elim (cases_Bool (nat_eq n m)) [
  | inl hit ↦
      let At : ℕ → Type 0 = λ k. Some (length xs) ≡ position (nat_eq k) (xs ++ n ∷ []) in
      rw hit (subst At (eqb-true n m hit) (sym (place-at (nat_eq n) (xs ++ n ∷ []) (length xs) (its-place xs n past) (omega (arith, longer xs n)))))
  | inr miss ↦ rw miss (others-stay xs n m miss)
]

-- places stay those of the numbers as one more is met
pub places-more : (xs ys zs : List ℕ) (n len : ℕ) (old after : ℕ → Option ℕ) → is_some (old n) ≡ false
    → ys ≡ xs → len ≡ length ys → zs ≡ ys ++ n ∷ [] → ((m : ℕ) → old m ≡ position (nat_eq m) xs) → ((m : ℕ) → after m ≡ cond (nat_eq n m) (Some len) (old m))
    → (m : ℕ) → after m ≡ position (nat_eq m) zs
places-more xs ys zs n len old after none same is more before updates m =
    let here : ℕ = position_or_len (nat_eq n) xs in
    let past : length xs ≤ here = ltb-false here (length xs) (sym (some-test (nat_lt here (length xs)) here) ∙ (ap is_some (sym (before n)) ∙ none)) in
    let length-is : len ≡ length xs = is ∙ ap length same in
    let whole : zs ≡ xs ++ n ∷ [] = more ∙ ap (λ l. l ++ n ∷ []) same in
    updates m ∙ (ap (λ k. cond (nat_eq n m) (Some k) (old m)) length-is
    ∙ (ap (λ o. cond (nat_eq n m) (Some (length xs)) o) (before m) ∙ (placed xs n past m ∙ ap (position (nat_eq m)) (sym whole))))
