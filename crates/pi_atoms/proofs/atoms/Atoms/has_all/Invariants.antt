use Rattle.std.proofs.Common.{◌≡◌, ℕ, List, Some, slice_get, ◌<◌}
use Rattle.pi_atoms.proofs.atoms.Atoms.has_all.Given as goal

abbrev pub invariant-loop-k : goal.invariant-loop-k
invariant-loop-k l = (j : ℕ) (name : List ℕ) → j < l.k → slice_get l.other j ≡ Some name → slice_get l.self j ≡ Some name
