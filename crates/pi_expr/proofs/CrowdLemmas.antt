-- A stretch of tokens, and what a walk over it finds.
use Rattle.std.proofs.Common.{◌≡◌, ℕ, ◌+◌, ◌<◌, ◌≤◌, ◌↔◌, inl, inr, zero, suc, Bool, true, false, cond, nat_lt, List, [], ◌∷◌, take, refl, sym, arith, lit≤}
use Rattle.std.specs.Prelude.{count_by}
use Rattle.std.proofs.lemmas.Bool.{cases_Bool, false≢true}
use Rattle.std.proofs.lemmas.Bool.Decides.{nat_tests}
use Rattle.std.proofs.lemmas.List.Sums.{sum_by-cons}
use Rattle.pi_syntax.specs.Tokens.{Token}
use Rattle.pi_syntax.specs.Crowding.{most_open, most_block_words, is_opening, is_closing, is_block_word, IsCrowded}
use Rattle.pi_expr.specs.Crowds.{one_if, is_too_open}
pub use Rattle.pi_expr_phrases.proofs.StretchLemmas.{stretch_step, stretch_none}

count_step : (p : Token → Bool) (t : Token) (ts : List Token) → count_by p (t ∷ ts) ≡ one_if (p t) + count_by p ts
count_step p t ts = sum_by-cons (λ x. cond (p x) 1 0) t ts

abbrev closings : ℕ → List Token → ℕ
closings n ts = count_by is_closing (take n ts)

abbrev openings : ℕ → List Token → ℕ
openings n ts = count_by is_opening (take n ts)

too_open_some : (o c : ℕ) (ts : List Token) → is_too_open o c ts ≡ true → (n : ℕ) × (c + closings n ts + most_open < o + openings n ts)
too_open_some o c [] h = absurd (false≢true h)
too_open_some o c (t ∷ ts) h =
    let more = o + one_if (is_opening t) in
    let less = c + one_if (is_closing t) in
    elim (cases_Bool (nat_lt (less + most_open) more)) [
      | inl over ↦
          let bound : less + most_open < more = grind (arith, nat_tests) in
          (1, omega (arith, bound, count_step is_closing t [], count_step is_opening t []))
      | inr not_over ↦
          let (n, found) = too_open_some more less ts (rw not_over at h) in
          (suc n, omega (arith, found, count_step is_closing t (take n ts), count_step is_opening t (take n ts)))
    ]

too_open_none : (o c : ℕ) (ts : List Token) → o ≤ c + most_open → is_too_open o c ts ≡ false → (n : ℕ)
    → c + closings n ts + most_open < o + openings n ts → ⊥
too_open_none o c ts within h zero found = omega arith
too_open_none o c [] within h (suc n) found = omega arith
too_open_none o c (t ∷ ts) within h (suc n) found =
    let more = o + one_if (is_opening t) in
    let less = c + one_if (is_closing t) in
    elim (cases_Bool (nat_lt (less + most_open) more)) [
      | inl over ↦ absurd (false≢true (sym (rw over at h)))
      | inr not_over ↦
          let bound : more ≤ less + most_open = grind (arith, nat_tests) in
          too_open_none more less ts bound (rw not_over at h) n
          (omega (arith, found, count_step is_closing t (take n ts), count_step is_opening t (take n ts)))
    ]

pub crowded_open : (ts : List Token) → is_too_open 0 0 ts ≡ true → IsCrowded ts
crowded_open ts h = let (n, found) = too_open_some 0 0 ts h in inl (n, omega (arith, found))

by_words : (ts : List Token) (w : ℕ) → is_too_open 0 0 ts ≡ false → w ≡ count_by is_block_word ts → IsCrowded ts → most_block_words < w
by_words ts w few words (inl (n, found)) = absurd (too_open_none 0 0 ts (omega arith) few n (omega (arith, found)))
by_words ts w few words (inr more) = rw words more

-- where no front opens too many, the words decide
pub crowded_by_words : (ts : List Token) (w : ℕ) (b : Bool) → is_too_open 0 0 ts ≡ false → w ≡ count_by is_block_word ts
    → (b ≡ true) ↔ (most_block_words < w) → (b ≡ true) ↔ IsCrowded ts
crowded_by_words ts w b few words many =
    (λ h. inr (rw words at (many.0 h)), λ crowded. many.1 (by_words ts w few words crowded))

pub few_by : (ts : List Token) (b : Bool) → ((b ≡ true) ↔ IsCrowded ts) → b ≡ false → ¬ IsCrowded ts
few_by ts b is lacks h = let holds : b ≡ true = is.1 h in cc

-- one token more of a walk

pub words_on : (p : Token → Bool) (t : Token) (ts rest : List Token) (w v total : ℕ) → ts ≡ t ∷ rest → v ≡ w + one_if (p t)
    → w + count_by p ts ≡ total → v + count_by p rest ≡ total
words_on p t ts rest w v total is more h = omega (arith, more, count_step p t rest, rw is at h)

pub open_on : (o c n k : ℕ) (t : Token) (ts rest : List Token) → ts ≡ t ∷ rest → n ≡ o + one_if (is_opening t)
    → k ≡ c + one_if (is_closing t) → n ≤ k + most_open → is_too_open o c ts ≡ is_too_open n k rest
open_on o c n k t ts rest is p q h =
    let not_over : nat_lt (k + most_open) n ≡ false = grind (arith, nat_tests) in
    rw (is, sym p, sym q, not_over) refl

pub open_over : (o c n k : ℕ) (t : Token) (ts rest : List Token) → ts ≡ t ∷ rest → n ≡ o + one_if (is_opening t)
    → k ≡ c + one_if (is_closing t) → k + most_open < n → is_too_open o c ts ≡ true
open_over o c n k t ts rest is p q h =
    let over : nat_lt (k + most_open) n ≡ true = grind (arith, nat_tests) in
    rw (is, sym p, sym q, over) refl

pub one_if-le : (b : Bool) → one_if b ≤ 1
one_if-le true = lit≤ tt
one_if-le false = lit≤ tt
