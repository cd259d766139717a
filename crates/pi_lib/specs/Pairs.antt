-- The two items of an array by their Refs. (Own.)
use Rattle.std.specs.Prelude.{◌≡◌, Option, Some, None}
use Rattle.pi_terms.specs.Tree.{Tree}
use Rattle.pi_constraints.specs.Store.{StoreView, IsTerm}
use Rattle.pi_constraints.specs.declared.store.Ref.{Ref}

-- Refs of two terms that are there, or none
abbrev pub ShowsPair : {M : Type 0} → StoreView M → Option (Tree × Tree) → Option (Ref × Ref) → Type 0
ShowsPair v pair None = pair ≡ None
ShowsPair v pair (Some rs) = (t : Tree) × (u : Tree) × (pair ≡ Some (t, u)) × IsTerm v rs.0 t × IsTerm v rs.1 u
