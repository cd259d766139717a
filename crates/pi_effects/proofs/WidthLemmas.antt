-- Values that fit 128 bits, and their outcomes.
use Rattle.std.proofs.Common.{◌≡◌, ◌≢◌, ℕ, zero, suc, ℤ, pos, negsuc, FitsSigned, Ok, refl, arith}
use Rattle.std.specs.Int.{w128}
use Rattle.std.proofs.lemmas.Int.{ints}
use Rattle.std.proofs.Math.Nat.{div-le_self}
use Rattle.pi_effects.specs.Quotients.{rounded_down}
use Rattle.pi_effects.specs.Range.{Outcome, bounded, divided_by}

pub bounded_of_fits : (z : ℤ) → FitsSigned w128 z → bounded z ≡ Ok z
bounded_of_fits z fits = grind (arith, ints)

pub fits_from_bounded : (z q : ℤ) → Ok q ≡ bounded z → (q ≡ z) × FitsSigned w128 z
fits_from_bounded z q e = grind (arith, ints)

pub divided_by_other : (b : ℤ) (outcome : Outcome) → b ≢ pos 0 → divided_by b outcome ≡ outcome
divided_by_other (pos zero) outcome other = absurd (other refl)
divided_by_other (pos (suc n)) outcome other = refl
divided_by_other (negsuc n) outcome other = refl

pub other_from_divided : (b q : ℤ) (outcome : Outcome) → Ok q ≡ divided_by b outcome → (b ≢ pos 0) × (Ok q ≡ outcome)
other_from_divided (pos zero) q outcome e = cc
other_from_divided (pos (suc n)) q outcome e = ((λ z. cc), e)
other_from_divided (negsuc n) q outcome e = ((λ z. cc), e)

pub fits_rounded : (z : ℤ) (n : ℕ) → FitsSigned w128 z → FitsSigned w128 (rounded_down z n)
fits_rounded (pos m) n fits = record { sfits = omega (arith, div-le_self m n, fits.sfits) }
fits_rounded (negsuc m) n fits = record { sfits = omega (arith, div-le_self m n, fits.sfits) }
