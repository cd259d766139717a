-- When integers don't lie past the bounds of domains.
use Rattle.std.specs.Prelude.{◌≡◌, ◌↔◌, List, ℤ, ◌≤ℤ◌, All, Contains, Result, Ok, Err}
use Rattle.std.specs.Result.{IsErrAnd}
use Rattle.std.proofs.Common.{arith, subst}
use Rattle.std.proofs.lemmas.Int.{ints}
use Rattle.pi_constraints.specs.declared.fault.DomFault.{DomFault}
use Rattle.pi_constraints.specs.declared.fault.DomFault.TheVariants.{TooWide, Memory}
use Rattle.pi_constraints.specs.Domain.{IsWithinBounds}

pub no_memory : {A : Type 0} (r : Result A DomFault) → IsErrAnd r (λ f. f ≡ Memory) → r ≡ Err TooWide → ⊥
no_memory (Ok a) h e = absurd h
no_memory (Err f) h e = cc

pub made : {A : Type 0} (a : A) → ◌≡◌ {A = Result A DomFault} (Ok a) (Err TooWide) → ⊥
made a e = cc

pub none_too_wide : {A : Type 0} (r : Result A DomFault) (xs : List ℤ) → All IsWithinBounds xs → (r ≡ Err TooWide → ⊥) → (r ≡ Err TooWide) ↔ ((n : ℤ) × Contains xs n × ¬ IsWithinBounds n)
none_too_wide r xs all other = (λ e. absurd (other e), λ found. let at = found.1 in absurd (found.2 (subst IsWithinBounds at.2 (all at.0 found.0 at.1))))

within_span : (lo hi n : ℤ) → IsWithinBounds lo → IsWithinBounds hi → lo ≤ℤ n → n ≤ℤ hi → IsWithinBounds n
within_span lo hi n low high above below = (omega (arith, ints, low.0), omega (arith, ints, high.1))

pub no_span_too_wide : {A : Type 0} (r : Result A DomFault) (lo hi : ℤ) → (lo ≤ℤ hi → IsWithinBounds lo × IsWithinBounds hi) → (r ≡ Err TooWide → ⊥)
    → (r ≡ Err TooWide) ↔ ((n : ℤ) × (lo ≤ℤ n) × (n ≤ℤ hi) × ¬ IsWithinBounds n)
no_span_too_wide r lo hi ends other = (
  λ e. absurd (other e),
  λ found.
      let (n, above, below, past) = found in
      let le : lo ≤ℤ hi = omega (arith, ints, above, below) in
      absurd (past (within_span lo hi n (ends le).0 (ends le).1 above below)),
)
