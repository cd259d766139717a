-- What a step of reading answers. (Own.)
use Rattle.std.specs.Prelude.{◌≡◌, ⊤, Bool, true, false, ◌&&◌, Result, Ok, Err, Option, Some, None, List, ℤ, ℕ}
use Rattle.pi_effects.specs.Range.{has_128_bits}
use Rattle.pi_prop_spec.specs.PostingSums.{Sum, Ascend}
use Rattle.pi_prop_spec.specs.Steps.{have_128_bits}
use Rattle.pi_prop_made.specs.declared.stop.SumStop.{SumStop}
use Rattle.pi_prop_made.specs.Changes.{ShowsTerms}

-- each coefficient and the constant have 128 bits
abbrev pub fits : Sum → Bool
fits u = have_128_bits u.terms && has_128_bits u.constant

-- the sum that a step is to be, or that it is too wide; memory may be wanted at any time
abbrev pub ShowsStep : Result Sum SumStop → Sum → Type 0
ShowsStep (Ok made) u = (made ≡ u) × (fits u ≡ true)
ShowsStep (Err SumStop.Wide) u = fits u ≡ false
ShowsStep (Err SumStop.Memory) u = ⊤

-- a number, unless it needs more than 128 bits
abbrev pub ShowsNumber : Option ℤ → ℤ → Type 0
ShowsNumber (Some made) z = (made ≡ z) × (has_128_bits z ≡ true)
ShowsNumber None z = has_128_bits z ≡ false

-- terms and a constant that are those of a joined sum
abbrev pub IsStepTo : Sum → Result (List (ℤ × ℕ)) SumStop → Option ℤ → Type 0
IsStepTo wanted terms constant = Ascend 0 wanted.terms × ShowsTerms terms wanted.terms × ShowsNumber constant wanted.constant
