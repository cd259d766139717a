-- Goals that are put behind others as they are made.
use Rattle.std.specs.Prelude.{◌≡◌, Result, Ok, Err, List, [], ◌∷◌, ◌++◌}
use Rattle.pi_core.specs.GoalTree.{GoalTree}

-- a goal was made, and stands behind the others
abbrev pub IsPut : {E : Type 0} → Result GoalTree E → List GoalTree → List GoalTree → Type 0
IsPut (Ok g) old new = new ≡ old ++ g ∷ []
IsPut (Err e) old new = ⊥
