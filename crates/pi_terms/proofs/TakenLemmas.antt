-- Terms that are taken off a list from its end.
use Rattle.std.proofs.Common.{◌≡◌, ℕ, zero, suc, ◌+◌, List, [], ◌∷◌, ◌++◌, length, take, drop, reverse, refl, sym, ◌∙◌, ap, arith}
use Rattle.std.proofs.lemmas.List.{reverse-append}

next-taken : {A : Type 0} (ys zs : List A) (i : ℕ) (r : A) → drop i ys ≡ r ∷ zs → (take (suc i) ys ≡ take i ys ++ r ∷ []) × (drop (suc i) ys ≡ zs)
next-taken [] zs zero r h = absurd cc
next-taken [] zs (suc i) r h = absurd cc
next-taken (y ∷ ys) zs zero r h = (cc, cc)
next-taken (y ∷ ys) zs (suc i) r h = let it : _ = next-taken ys zs i r h in (ap (λ q. y ∷ q) it.0, it.1)

none-taken : {A : Type 0} (ys : List A) (i : ℕ) → drop i ys ≡ [] → (take (suc i) ys ≡ take i ys) × (drop (suc i) ys ≡ [])
none-taken [] zero h = (refl, refl)
none-taken [] (suc i) h = (refl, refl)
none-taken (y ∷ ys) zero h = absurd cc
none-taken (y ∷ ys) (suc i) h = let it : _ = none-taken ys i h in (ap (λ q. y ∷ q) it.0, it.1)

pub took-one : {A : Type 0} (xs made rest args new : List A) (i : ℕ) (r : A) → args ≡ take i (reverse xs) → reverse made ≡ drop i (reverse xs) → made ≡ rest ++ r ∷ [] → new ≡ args ++ r ∷ [] →
    (new ≡ take (i + 1) (reverse xs)) × (reverse rest ≡ drop (i + 1) (reverse xs))
took-one xs made rest args new i r taken left is pushed =
    let it : _ = next-taken (reverse xs) (reverse rest) i r (sym left ∙ ap reverse is ∙ reverse-append rest (r ∷ [])) in
    let up : suc i ≡ i + 1 = omega arith in (
      pushed ∙ ap (λ q. q ++ r ∷ []) taken ∙ sym it.0 ∙ ap (λ n. take n (reverse xs)) up,
      sym it.1 ∙ ap (λ n. drop n (reverse xs)) up,
    )

pub took-none : {A : Type 0} (xs made rest args : List A) (i : ℕ) → args ≡ take i (reverse xs) → reverse made ≡ drop i (reverse xs) → made ≡ [] → rest ≡ [] →
    (args ≡ take (i + 1) (reverse xs)) × (reverse rest ≡ drop (i + 1) (reverse xs))
took-none xs made rest args i taken left none empty =
    let it : _ = none-taken (reverse xs) i (sym left ∙ ap reverse none) in
    let up : suc i ≡ i + 1 = omega arith in (
      taken ∙ sym it.0 ∙ ap (λ n. take n (reverse xs)) up,
      ap reverse empty ∙ sym it.1 ∙ ap (λ n. drop n (reverse xs)) up,
    )

pub empty : {A : Type 0} (xs : List A) → length xs ≡ 0 → xs ≡ []
empty [] h = refl
empty (x ∷ xs) h = absurd (omega (arith, h))
