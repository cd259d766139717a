-- One token more or no more: what it does to the parts.
use Rattle.std.proofs.Common.{◌≡◌, ℕ, ◌+◌, ◌<◌, suc, true, false, List, [], ◌∷◌, ◌++◌, drop, length, slice_get, Some, refl, ap, ◌∙◌, arith, drop-cons}
use Rattle.std.proofs.lemmas.List.{length-map}
use Rattle.std.proofs.lemmas.Option.{slice_get_within, get_or_from_slice_get}
use Rattle.pi_lex.specs.Kinds.{kinds}
use Rattle.pi_syntax.specs.Tokens.{Located, Token, Var, Atom, Word, Int, Str, Sign, End}
use Rattle.pi_prog.specs.Pieces.{is_end}
use Rattle.pi_prog_clauses.specs.Stretch.{stretch, stretches_behind}

pub end_step : (before ts : List Token) → stretches_behind before (End ∷ ts) ≡ stretch before true ∷ stretches_behind [] ts
unfolding stretches_behind
end_step [] ts = refl
end_step (b ∷ bs) ts = refl

pub other_step : (before : List Token) (t : Token) (ts : List Token) → is_end t ≡ false → stretches_behind before (t ∷ ts) ≡ stretches_behind (before ++ t ∷ []) ts
unfolding stretches_behind
other_step [] (Var n) ts h = refl
other_step [] (Atom n) ts h = refl
other_step [] (Word n) ts h = refl
other_step [] (Int n) ts h = refl
other_step [] (Str n) ts h = refl
other_step [] (Sign n) ts h = refl
other_step [] End ts h = absurd (cc)
other_step (b ∷ bs) (Var n) ts h = refl
other_step (b ∷ bs) (Atom n) ts h = refl
other_step (b ∷ bs) (Word n) ts h = refl
other_step (b ∷ bs) (Int n) ts h = refl
other_step (b ∷ bs) (Str n) ts h = refl
other_step (b ∷ bs) (Sign n) ts h = refl
other_step (b ∷ bs) End ts h = absurd (cc)

pub last_step : (before : List Token) → 0 < length before → stretches_behind before [] ≡ stretch before false ∷ []
unfolding stretches_behind
last_step [] h = absurd (omega arith)
last_step (b ∷ bs) h = refl

pub no_step : stretches_behind [] [] ≡ []
unfolding stretches_behind
no_step = refl

pub is_the_end : (t : Token) → is_end t ≡ true → t ≡ End
is_the_end End h = refl
is_the_end (Var n) h = absurd (cc)
is_the_end (Atom n) h = absurd (cc)
is_the_end (Word n) h = absurd (cc)
is_the_end (Int n) h = absurd (cc)
is_the_end (Str n) h = absurd (cc)
is_the_end (Sign n) h = absurd (cc)

-- the item at a place stands before the items after that place
pub drop_at : {X : Type 0} (xs : List X) (at next : ℕ) (x : X) → next ≡ at + 1 → slice_get xs at ≡ Some x → drop at xs ≡ x ∷ drop next xs
drop_at xs at next x n is =
    let within = slice_get_within xs at x is in
    let same : suc at ≡ next = omega (arith, n) in
    drop-cons xs at x within ∙ ap (λ y. y ∷ drop (suc at) xs) (get_or_from_slice_get xs at x x is) ∙ ap (λ k. x ∷ drop k xs) same

pub length-kinds : (tokens : List Located) → length (kinds tokens) ≡ length tokens
length-kinds tokens = length-map tokens (λ (located : Located). located.0)
