-- Pieces of tokens that aren't crowded.
use Rattle.std.proofs.Common.{◌≡◌, ℕ, ◌+◌, zero, suc, Bool, inl, inr, List, [], ◌∷◌, ◌++◌, take, length, refl, ap, subst, sym, arith}
use Rattle.std.specs.Prelude.{count_by}
use Rattle.pi_syntax.specs.Crowding.{IsCrowded, is_opening, is_closing, is_block_word}
use Rattle.pi_syntax.specs.Tokens.{Token}
use Rattle.pi_expr.specs.Crowds.{one_if}
use Rattle.pi_prog.proofs.reading.BalanceLemmas.{count_step}

count-append : (p : Token → Bool) (xs ys : List Token) → count_by p (xs ++ ys) ≡ count_by p xs + count_by p ys
count-append p [] ys = omega arith
count-append p (x ∷ xs) ys = omega (arith, count_step p x xs, count_step p x (xs ++ ys), count-append p xs ys)

take_front : (n : ℕ) (xs ys : List Token) → take (length (take n xs)) (xs ++ ys) ≡ take n xs
take_front zero xs ys = refl
take_front (suc n) [] ys = refl
take_front (suc n) (x ∷ xs) ys = ap (λ zs. x ∷ zs) (take_front n xs ys)

take_behind : (n : ℕ) (xs ys : List Token) → (m : ℕ) × (take m (xs ++ ys) ≡ xs ++ take n ys)
take_behind n [] ys = (n, refl)
take_behind n (x ∷ xs) ys = let (m, is) = take_behind n xs ys in (suc m, ap (λ zs. x ∷ zs) is)

crowded_front : (xs ys : List Token) → IsCrowded xs → IsCrowded (xs ++ ys)
crowded_front xs ys (inl (n, found)) = inl (length (take n xs), (rw (take_front n xs ys) found))
crowded_front xs ys (inr more) = inr (omega (arith, more, count-append is_block_word xs ys))

crowded_behind : (xs ys : List Token) → count_by is_closing xs ≡ count_by is_opening xs → IsCrowded ys → IsCrowded (xs ++ ys)
crowded_behind xs ys same (inl (n, found)) =
    let (m, is) = take_behind n xs ys in
    inl (m, (rw is (omega (arith, found, same, count-append is_closing xs (take n ys), count-append is_opening xs (take n ys)))))
crowded_behind xs ys same (inr more) = inr (omega (arith, more, count-append is_block_word xs ys))

pub few_in_front : (ts xs ys : List Token) → ts ≡ xs ++ ys → ¬ IsCrowded ts → ¬ IsCrowded xs
few_in_front ts xs ys is few crowded = few (subst IsCrowded (sym is) (crowded_front xs ys crowded))

pub few_behind : (ts xs ys : List Token) → ts ≡ xs ++ ys → count_by is_closing xs ≡ count_by is_opening xs → ¬ IsCrowded ts → ¬ IsCrowded ys
few_behind ts xs ys is same few crowded = few (subst IsCrowded (sym is) (crowded_behind xs ys same crowded))

-- with one more token that is no bracket
pub balanced_more : (xs : List Token) (t : Token) → is_opening t ≡ is_closing t → count_by is_closing xs ≡ count_by is_opening xs → count_by is_closing (xs ++ t ∷ []) ≡ count_by is_opening (xs ++ t ∷ [])
balanced_more xs t lacks same =
    omega (arith, same, count-append is_closing xs (t ∷ []), count-append is_opening xs (t ∷ []), count_step is_closing t [], count_step is_opening t [], ap one_if lacks)
