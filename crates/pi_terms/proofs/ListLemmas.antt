-- Lists: the first few of the first few, and elements that are put in.
use Rattle.std.proofs.Common.{◌≡◌, ℕ, zero, suc, ◌≤◌, List, [], ◌∷◌, None, length, take, set, refl, ap, arith}
use Rattle.std.specs.Prelude.{slice_get}
use Rattle.std.proofs.lemmas.Grind.{common_steps}
use Rattle.std.proofs.lemmas.Option.{gets}

pub take-set : {X : Type 0} → (n k : ℕ) (s : List X) (x : X) → take n (set s k x) ≡ set (take n s) k x
take-set zero k s x = refl
take-set (suc n) k [] x = refl
take-set (suc n) zero (y ∷ s) x = refl
take-set (suc n) (suc k) (y ∷ s) x = ap (λ r. y ∷ r) (take-set n k s x)

pub set-set : {X : Type 0} → (s : List X) (k : ℕ) (x y : X) → set (set s k x) k y ≡ set s k y
set-set [] k x y = refl
set-set (z ∷ s) zero x y = refl
set-set (z ∷ s) (suc k) x y = ap (λ r. z ∷ r) (set-set s k x y)

pub take-take : {X : Type 0} → (n k : ℕ) (s : List X) → n ≤ k → take n (take k s) ≡ take n s
take-take zero k s h = refl
take-take (suc n) zero s h = absurd (omega arith)
take-take (suc n) (suc k) [] h = refl
take-take (suc n) (suc k) (x ∷ s) h = ap (λ r. x ∷ r) (take-take n k s (omega arith))

-- where there is no element
pub none-past : {X : Type 0} → (s : List X) (i : ℕ) → slice_get s i ≡ None → length s ≤ i
none-past s i h = grind (arith, common_steps, gets)

pub length-taken : {X : Type 0} → (s : List X) (n : ℕ) → n ≤ length s → length (take n s) ≡ n
length-taken [] zero h = refl
length-taken [] (suc n) h = absurd (omega arith)
length-taken (y ∷ s) zero h = refl
length-taken (y ∷ s) (suc n) h = ap suc (length-taken s n (omega arith))
