-- Rows of cells, as lists.
use Rattle.std.proofs.Common.{◌≡◌, ℕ, zero, suc, ◌<◌, List, [], ◌∷◌, arith}
use Rattle.std.specs.Prelude.{Option, Some, None}
use lib.ListN.{length, get_or}

pub written_within : (cs : List (Option ℕ)) (i w : ℕ) → get_or cs i None ≡ Some w → i < length cs
written_within [] i w e = cc
written_within (c ∷ cs) zero w e = omega arith
written_within (c ∷ cs) (suc i) w e = omega (arith, written_within cs i w e)
