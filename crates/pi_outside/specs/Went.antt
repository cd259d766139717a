-- How calls on an object lead from one state of it to another.
use Rattle.std.specs.Prelude.{◌≡◌, List, [], ◌∷◌}

-- These calls, one after the other, led from the first state to the second; `does` says what one call may make of a state.
abbrev pub Went : {S C : Type 0} → (S → C → S → Type 0) → S → List C → S → Type 0
Went does before [] after = before ≡ after
Went {S} does before (call ∷ calls) after = (between : S) × does before call between × Went does between calls after
