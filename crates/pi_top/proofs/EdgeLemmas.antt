-- The facts of one place more.
use Rattle.std.proofs.Common.{◌≡◌, ℕ, ◌+◌, refl, ◌++◌, []}
use native.Mathlib.Numerals.{unary_clauses}
use Rattle.pi_top.specs.Demo.{place_lines, edge_lines}

pub no-edges : (n : ℕ) → edge_lines n 0 ≡ []
unfolding edge_lines
no-edges n = refl

pub one-place : (n k : ℕ) → edge_lines n (k + 1) ≡ edge_lines n k ++ place_lines n k
unfolding edge_lines
one-place n k = simp unary_clauses refl
