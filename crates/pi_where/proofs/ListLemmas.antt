-- Items of a list from one place up to another.
use Rattle.std.proofs.Common.{◌≡◌, ℕ, ◌+◌, ◌-◌, ◌<◌, ◌≤◌, zero, suc, List, [], ◌∷◌, ◌++◌, map, take, drop, length, slice_get, Some, refl, ap, sym, ◌∙◌, arith, append_assoc}
use Rattle.std.proofs.Math.Seq.{take-add, take-append_seam, drop-append_seam}
use Rattle.std.proofs.lemmas.List.{drop-drop, drop-map, take-append-drop, take-map}
use Rattle.std.proofs.lemmas.Option.{slice_get_past}
use Rattle.pi_prog.proofs.EndLemmas.{drop_at}

-- from one place up to another
abbrev pub between : {X : Type 0} → List X → ℕ → ℕ → List X
between xs from to = take (to - from) (drop from xs)

drop_on : {X : Type 0} (xs : List X) (from at : ℕ) → from ≤ at → drop (at - from) (drop from xs) ≡ drop at xs
drop_on xs from at h =
    let place : from + (at - from) ≡ at = omega (arith, h) in
    drop-drop (at - from) from xs ∙ ap (λ k. drop k xs) place

-- one item more
pub between_more : {X : Type 0} (xs : List X) (from at next : ℕ) (x : X) → next ≡ at + 1 → from ≤ at → slice_get xs at ≡ Some x
    → between xs from next ≡ between xs from at ++ x ∷ []
between_more xs from at next x n h is =
    let count : next - from ≡ (at - from) + 1 = omega (arith, n, h) in
    ap (λ k. take k (drop from xs)) count
    ∙ take-add (at - from) 1 (drop from xs)
    ∙ ap (λ ys. between xs from at ++ take 1 ys) (drop_on xs from at h ∙ drop_at xs at next x n is)

-- so many items, and those up to a place after them
pub take_on : {X : Type 0} (xs : List X) (from to : ℕ) → from ≤ to → take to xs ≡ take from xs ++ between xs from to
take_on xs from to h =
    let place : to ≡ from + (to - from) = omega (arith, h) in
    ap (λ k. take k xs) place ∙ take-add from (to - from) xs

pub map-between : {X Y : Type 0} (f : X → Y) (xs : List X) (from to : ℕ) → map f (between xs from to) ≡ between (map f xs) from to
map-between f xs from to = sym (take-map f (to - from) (drop from xs)) ∙ ap (take (to - from)) (sym (drop-map f from xs))

-- a list in three
pub in_three : {X : Type 0} (xs : List X) (from to : ℕ) → from ≤ to → xs ≡ take from xs ++ between xs from to ++ drop to xs
in_three xs from to h = sym (take-append-drop to xs) ∙ ap (λ ys. ys ++ drop to xs) (take_on xs from to h)

get_take : {X : Type 0} (n i : ℕ) (xs : List X) → i < n → slice_get (take n xs) i ≡ slice_get xs i
get_take zero i xs h = absurd (omega arith)
get_take (suc n) i [] h = refl
get_take (suc n) zero (x ∷ xs) h = refl
get_take (suc n) (suc i) (x ∷ xs) h = get_take n i xs (omega arith)

get_drop : {X : Type 0} (n i at : ℕ) (xs : List X) → n + i ≡ at → slice_get (drop n xs) i ≡ slice_get xs at
get_drop zero i at xs h = let same : i ≡ at = omega arith in ap (slice_get xs) same
get_drop (suc n) i zero xs h = absurd (omega arith)
get_drop (suc n) i (suc at) [] h = slice_get_past [] i (omega arith)
get_drop (suc n) i (suc at) (x ∷ xs) h = get_drop n i at xs (omega arith)

pub get_between : {X : Type 0} (xs : List X) (from to at place : ℕ) → from + place ≡ at → at < to → slice_get (between xs from to) place ≡ slice_get xs at
get_between xs from to at place is h = get_take (to - from) place (drop from xs) (omega (arith, is, h)) ∙ get_drop from place at xs is

-- the second of three lists, by the lengths of the first two
pub second_of : {X : Type 0} (xs first second third : List X) → xs ≡ first ++ second ++ third → second ≡ take (length second) (drop (length first) xs)
second_of xs first second third is =
    sym (
    ap (λ ys. take (length second) (drop (length first) ys)) (is ∙ append_assoc first second third)
    ∙ ap (take (length second)) (drop-append_seam first (second ++ third))
    ∙ take-append_seam second third
    )
