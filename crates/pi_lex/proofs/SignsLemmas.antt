-- The sign that is read is the longest that fits.
use Rattle.std.proofs.Common.{◌≡◌, ℕ, ◌<◌, ◌≤◌, Bool, true, false, cond, ◌==◌, ◌||◌, List, [], ◌∷◌, length, take, refl, subst, arith, inl, inr, lit≤}
use Rattle.std.proofs.lemmas.Bool.{cases_Bool, and_parts, false≢true, eqb-true}
use Rattle.std.specs.List.{list_all}
use Rattle.std.specs.Str.{bytes_eq}
use Rattle.pi_lex.specs.Forms.{is_sign}
use Rattle.pi_syntax.specs.Tokens.{is_one_of, begins_with, begins_with_one_of, sign_len, signs_of_four, signs_of_three, signs_of_two, signs_of_one}
use Rattle.std.proofs.lemmas.Slice.Eq.{bytes_eq-Decides}

pub or_first : (x y : Bool) → x ≡ true → (x || y) ≡ true
or_first x y is = rw is

pub or_later : (x y : Bool) → y ≡ true → (x || y) ≡ true
or_later true y is = refl
or_later false y is = is

-- these signs have this many characters
abbrev pub HaveLength : ℕ → List (List ℕ) → Type 0
HaveLength n signs = list_all (λ (sign : List ℕ). length sign == n) signs ≡ true

pub same_bytes : (xs ys : List ℕ) → bytes_eq xs ys ≡ true → xs ≡ ys
same_bytes xs ys e = (bytes_eq-Decides xs ys).0 e

-- one of them has that length
pub is_one_of-length : (n : ℕ) (signs : List (List ℕ)) (sign : List ℕ) → HaveLength n signs → is_one_of signs sign ≡ true → length sign ≡ n
is_one_of-length n [] sign have is = absurd (false≢true is)
is_one_of-length n (s ∷ ss) sign have is =
    let (here, more) = and_parts (length s == n) (list_all (λ (t : List ℕ). length t == n) ss) have in
    elim (cases_Bool (bytes_eq sign s)) [
      | inl same ↦ rw (same_bytes sign s same) (eqb-true (length s) n here)
      | inr other ↦ is_one_of-length n ss sign more (rw other at is)
    ]

-- one that fits makes the test true
pub begins_with_one_of-fits : (signs : List (List ℕ)) (text sign : List ℕ) → is_one_of signs sign ≡ true → begins_with text sign ≡ true
    → begins_with_one_of signs text ≡ true
begins_with_one_of-fits [] text sign is fits = absurd (false≢true is)
begins_with_one_of-fits (s ∷ ss) text sign is fits =
    elim (cases_Bool (bytes_eq sign s)) [
      | inl same ↦
          let P : List ℕ → Type 0 = λ t. begins_with text t ≡ true in
          let here : begins_with text s ≡ true = subst P (same_bytes sign s same) fits in
          rw here
      | inr other ↦ or_later (begins_with text s) (begins_with_one_of ss text) (begins_with_one_of-fits ss text sign (rw other at is) fits)
    ]

-- where the test is true, the front is one of them
pub is_one_of-front : (n : ℕ) (signs : List (List ℕ)) (text : List ℕ) → HaveLength n signs → begins_with_one_of signs text ≡ true
    → is_one_of signs (take n text) ≡ true
is_one_of-front n [] text have is = absurd (false≢true is)
is_one_of-front n (s ∷ ss) text have is =
    let (here, more) = and_parts (length s == n) (list_all (λ (t : List ℕ). length t == n) ss) have in
    elim (cases_Bool (begins_with text s)) [
      | inl fits ↦
          let P : ℕ → Type 0 = λ k. bytes_eq (take k text) s ≡ true in
          let front : bytes_eq (take n text) s ≡ true = subst P (eqb-true (length s) n here) fits in
          rw front
      | inr other ↦ or_later (bytes_eq (take n text) s) (is_one_of ss (take n text)) (is_one_of-front n ss text more (rw other at is))
    ]

-- the length of the longest group that has a sign
abbrev pub size : Bool → Bool → Bool → Bool → ℕ
size four three two one = cond four 4 (cond three 3 (cond two 2 (cond one 1 0)))

pub le-size-four : (four three two one : Bool) → four ≡ true → 4 ≤ size four three two one
le-size-four true three two one is = lit≤ tt
le-size-four false three two one is = absurd (false≢true is)

pub le-size-three : (four three two one : Bool) → three ≡ true → 3 ≤ size four three two one
le-size-three true three two one is = lit≤ tt
le-size-three false true two one is = lit≤ tt
le-size-three false false two one is = absurd (false≢true is)

pub le-size-two : (four three two one : Bool) → two ≡ true → 2 ≤ size four three two one
le-size-two true three two one is = lit≤ tt
le-size-two false true two one is = lit≤ tt
le-size-two false false true one is = lit≤ tt
le-size-two false false false one is = absurd (false≢true is)

pub le-size-one : (four three two one : Bool) → one ≡ true → 1 ≤ size four three two one
le-size-one true three two one is = lit≤ tt
le-size-one false true two one is = lit≤ tt
le-size-one false false true one is = lit≤ tt
le-size-one false false false true is = lit≤ tt
le-size-one false false false false is = absurd (false≢true is)

-- the sign that is read is one
pub sign_len-fits : (text : List ℕ) → 0 < sign_len text → is_sign (take (sign_len text) text) ≡ true
sign_len-fits text some =
    elim (cases_Bool (begins_with_one_of signs_of_four text)) [
      | inl four ↦ rw four (or_first _ _ (or_first _ _ (or_first _ _ (is_one_of-front 4 signs_of_four text refl four))))
      | inr not_four ↦ elim (cases_Bool (begins_with_one_of signs_of_three text)) [
        | inl three ↦ rw (not_four, three) (or_first _ _ (or_first _ _ (or_later _ _ (is_one_of-front 3 signs_of_three text refl three))))
        | inr not_three ↦ elim (cases_Bool (begins_with_one_of signs_of_two text)) [
          | inl two ↦ rw (not_four, not_three, two) (or_first _ _ (or_later _ _ (is_one_of-front 2 signs_of_two text refl two)))
          | inr not_two ↦ elim (cases_Bool (begins_with_one_of signs_of_one text)) [
            | inl one ↦ rw (not_four, not_three, not_two, one) (or_later _ _ (is_one_of-front 1 signs_of_one text refl one))
            | inr not_one ↦ let never = rw (not_four, not_three, not_two, not_one) at some in absurd (omega arith)
          ]
        ]
      ]
    ]

-- each sign that fits is at most as long
pub sign_len-longest : (text sign : List ℕ) → is_sign sign ≡ true → begins_with text sign ≡ true → length sign ≤ sign_len text
sign_len-longest text sign is fits =
    elim (cases_Bool (is_one_of signs_of_four sign)) [
      | inl four ↦ omega (arith, is_one_of-length 4 signs_of_four sign refl four, le-size-four (begins_with_one_of signs_of_four text) (begins_with_one_of signs_of_three text) (begins_with_one_of signs_of_two text) (begins_with_one_of signs_of_one text) (begins_with_one_of-fits signs_of_four text sign four fits))
      | inr not_four ↦ elim (cases_Bool (is_one_of signs_of_three sign)) [
        | inl three ↦ omega (arith, is_one_of-length 3 signs_of_three sign refl three, le-size-three (begins_with_one_of signs_of_four text) (begins_with_one_of signs_of_three text) (begins_with_one_of signs_of_two text) (begins_with_one_of signs_of_one text) (begins_with_one_of-fits signs_of_three text sign three fits))
        | inr not_three ↦ elim (cases_Bool (is_one_of signs_of_two sign)) [
          | inl two ↦ omega (arith, is_one_of-length 2 signs_of_two sign refl two, le-size-two (begins_with_one_of signs_of_four text) (begins_with_one_of signs_of_three text) (begins_with_one_of signs_of_two text) (begins_with_one_of signs_of_one text) (begins_with_one_of-fits signs_of_two text sign two fits))
          | inr not_two ↦ elim (cases_Bool (is_one_of signs_of_one sign)) [
            | inl one ↦ omega (arith, is_one_of-length 1 signs_of_one sign refl one, le-size-one (begins_with_one_of signs_of_four text) (begins_with_one_of signs_of_three text) (begins_with_one_of signs_of_two text) (begins_with_one_of signs_of_one text) (begins_with_one_of-fits signs_of_one text sign one fits))
            | inr not_one ↦ let never = rw (not_four, not_three, not_two, not_one) at is in absurd (false≢true never)
          ]
        ]
      ]
    ]
