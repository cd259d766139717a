-- What a change of terms does, told by the coefficients of all variables. (Own.)
use Rattle.std.specs.Prelude.{◌≡◌, ⊤, ℕ, ◌==◌, Bool, false, cond, List, ℤ, pos, ◌+ℤ◌, ◌*ℤ◌, Result, Ok, Err}
use Rattle.pi_effects.specs.Range.{has_128_bits}
use Rattle.pi_prop_spec.specs.PostingSums.{Ascend, coefficient}
use Rattle.pi_prop_spec.specs.Steps.{have_128_bits}
use Rattle.pi_prop_made.specs.declared.stop.SumStop.{SumStop}
use Rattle.pi_prop_made.specs.Signed.{signed}

-- the variable k has the coefficient z now, and all others have theirs
abbrev pub Sets : List (ℤ × ℕ) → List (ℤ × ℕ) → ℕ → ℤ → Type 0
Sets old new k z = (n : ℕ) → coefficient new n ≡ cond (n == k) z (coefficient old n)

-- a term is joined to others, unless the coefficient that it makes is too wide
abbrev pub Joins : List (ℤ × ℕ) → List (ℤ × ℕ) → ℕ → ℤ → Result (Unit {0}) SumStop → Type 0
Joins old new k z (Ok done) = Sets old new k (z +ℤ coefficient old k)
Joins old new k z (Err SumStop.Wide) = has_128_bits (z +ℤ coefficient old k) ≡ false
Joins old new k z (Err SumStop.Memory) = ⊤

-- all terms are joined to others, each times a number, unless a coefficient becomes too wide
abbrev pub AddsTimes : ℤ → List (ℤ × ℕ) → List (ℤ × ℕ) → List (ℤ × ℕ) → Result (Unit {0}) SumStop → Type 0
AddsTimes m old new more (Ok done) = (n : ℕ) → coefficient new n ≡ coefficient old n +ℤ m *ℤ coefficient more n
AddsTimes m old new more (Err SumStop.Wide) = (n : ℕ) × (has_128_bits (coefficient old n +ℤ m *ℤ coefficient more n) ≡ false)
AddsTimes m old new more (Err SumStop.Memory) = ⊤

-- each term times a number
abbrev pub Scales : ℤ → List (ℤ × ℕ) → List (ℤ × ℕ) → Type 0
Scales m old new = (n : ℕ) → coefficient new n ≡ m *ℤ coefficient old n

-- 1, or -1
abbrev pub factor_of : Bool → ℤ
factor_of negated = signed negated (pos 1)

abbrev pub IsTimes : ℤ → List (ℤ × ℕ) → Result (List (ℤ × ℕ)) SumStop → Type 0
IsTimes m old (Ok new) = Scales m old new
IsTimes m old (Err SumStop.Wide) = (n : ℕ) × (has_128_bits (m *ℤ coefficient old n) ≡ false)
IsTimes m old (Err SumStop.Memory) = ⊤

-- ---- terms that are to be judged

-- terms with the coefficients of w, unless one is too wide
abbrev pub ShowsTerms : Result (List (ℤ × ℕ)) SumStop → List (ℤ × ℕ) → Type 0
ShowsTerms (Ok made) w = (n : ℕ) → coefficient made n ≡ coefficient w n
ShowsTerms (Err SumStop.Wide) w = have_128_bits w ≡ false
ShowsTerms (Err SumStop.Memory) w = ⊤

-- joined terms in which each variable has its coefficient in u and m times that in v
abbrev pub ShowsAdded : ℤ → List (ℤ × ℕ) → List (ℤ × ℕ) → Result (List (ℤ × ℕ)) SumStop → Type 0
ShowsAdded m u v r = (w : List (ℤ × ℕ)) → Ascend 0 w → ((n : ℕ) → coefficient w n ≡ coefficient u n +ℤ m *ℤ coefficient v n) → ShowsTerms r w
