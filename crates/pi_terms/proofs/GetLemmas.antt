-- Elements by their numbers, in lists that grow at their end or of which one element is replaced.
use Rattle.std.proofs.Common.{◌≡◌, ℕ, zero, suc, ◌<◌, List, [], ◌∷◌, ◌++◌, length, Some, refl, ap, ◌⊎◌, inl, inr, arith, map, ◌+◌, take, add-one}
use Rattle.std.specs.Prelude.{Result, Ok, Err, OnErr, slice_get, slice_set}

pub get_append_left : {X : Type 0} (xs ys : List X) (i : ℕ) (x : X) → slice_get xs i ≡ Some x → slice_get (xs ++ ys) i ≡ Some x
get_append_left [] ys i x e = absurd (cc)
get_append_left (z ∷ xs) ys zero x e = e
get_append_left (z ∷ xs) ys (suc i) x e = get_append_left xs ys i x e

pub get_append_last : {X : Type 0} (xs : List X) (y : X) → slice_get (xs ++ y ∷ []) (length xs) ≡ Some y
get_append_last [] y = refl
get_append_last (z ∷ xs) y = get_append_last xs y

pub get_append_cases : {X : Type 0} (xs : List X) (y : X) (i : ℕ) (x : X) → slice_get (xs ++ y ∷ []) i ≡ Some x → (slice_get xs i ≡ Some x) ⊎ ((i ≡ length xs) × (x ≡ y))
get_append_cases [] y zero x e = inr (refl, cc)
get_append_cases [] y (suc i) x e = absurd (cc)
get_append_cases (z ∷ xs) y zero x e = inl e
get_append_cases (z ∷ xs) y (suc i) x e = elim (get_append_cases xs y i x e) [ inl h ↦ inl h | inr h ↦ inr (ap suc h.0, h.1) ]

pub get_set_cases : {X : Type 0} (xs : List X) (n : ℕ) (v : X) (i : ℕ) (x : X) → slice_get (slice_set xs n v) i ≡ Some x → (slice_get xs i ≡ Some x) ⊎ ((i ≡ n) × (x ≡ v))
get_set_cases [] n v i x e = inl e
get_set_cases (z ∷ xs) zero v zero x e = inr (refl, cc)
get_set_cases (z ∷ xs) zero v (suc i) x e = inl e
get_set_cases (z ∷ xs) (suc n) v zero x e = inl e
get_set_cases (z ∷ xs) (suc n) v (suc i) x e = elim (get_set_cases xs n v i x e) [ inl h ↦ inl h | inr h ↦ inr (ap suc h.0, h.1) ]

pub get_some : {X : Type 0} (xs : List X) (i : ℕ) → i < length xs → (x : X) × (slice_get xs i ≡ Some x)
get_some [] i h = absurd (omega arith)
get_some (z ∷ xs) zero h = (z, refl)
get_some (z ∷ xs) (suc i) h = get_some xs i (omega arith)

pub map_set : {X Y : Type 0} (f : X → Y) (xs : List X) (n : ℕ) (v : X) → map f (slice_set xs n v) ≡ slice_set (map f xs) n (f v)
map_set f [] n v = refl
map_set f (z ∷ xs) zero v = refl
map_set f (z ∷ xs) (suc n) v = ap (λ ys. f z ∷ ys) (map_set f xs n v)

pub map_same : {X Y : Type 0} (f g : X → Y) (xs : List X) → ((i : ℕ) (x : X) → slice_get xs i ≡ Some x → f x ≡ g x) → map f xs ≡ map g xs
map_same f g [] h = refl
map_same f g (z ∷ xs) h =
    let first : f z ≡ g z = h 0 z refl in
    let rest : map f xs ≡ map g xs = map_same f g xs (λ i x e. h (suc i) x e) in
    cc

take_suc : {X : Type 0} (xs : List X) (i : ℕ) (x : X) → slice_get xs i ≡ Some x → take (suc i) xs ≡ take i xs ++ x ∷ []
take_suc [] i x e = absurd (cc)
take_suc (z ∷ xs) zero x e = let h : z ≡ x = cc in ap (λ y. y ∷ []) h
take_suc (z ∷ xs) (suc i) x e = ap (λ ys. z ∷ ys) (take_suc xs i x e)

pub take_more : {X : Type 0} (xs : List X) (i : ℕ) (x : X) → slice_get xs i ≡ Some x → take (i + 1) xs ≡ take i xs ++ x ∷ []
take_more xs i x e = rw (add-one) (take_suc xs i x e)

pub get_append_seam : {X : Type 0} (xs ys : List X) (y : X) → slice_get (xs ++ y ∷ ys) (length xs) ≡ Some y
get_append_seam [] ys y = refl
get_append_seam (z ∷ xs) ys y = get_append_seam xs ys y

-- a fact that holds whatever the answer is
pub on_err : {T E : Type 0} (r : Result T E) {P : Type 0} → P → OnErr r P
on_err (Ok x) h = tt
on_err (Err e) h = h
