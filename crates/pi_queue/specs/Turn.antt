-- One turn of a propagation. (Own.)
use Rattle.std.specs.Prelude.{◌≡◌, ℕ, ◌<◌, Bool, true, false, List, ◌++◌, length, Some, slice_get}
use Rattle.pi_constraints.specs.declared.constraint.Constraint.{Constraint}
use Rattle.pi_constraints.specs.State.{State, IsState}
use Rattle.pi_settling.specs.SettlingLaws.{MaySettle}
use Rattle.pi_settling.specs.Run.{IsRun, Fails}
use Rattle.pi_settling.specs.Runs.{AreMadeDue}

-- the constraint with this number may be run
pub record MayTurn (s : State) (i : ℕ) : Type 0 where
  pub state : IsState s
  pub settles : MaySettle s
  pub posted : i < length s.constraints

-- it was run, and those that it made due wait behind the rest
pub record IsTurn (s : State) (i : ℕ) (rest : List ℕ) (r : State) (now : List ℕ) : Type 0 where
  pub constraint : Constraint
  pub there : slice_get s.constraints i ≡ Some constraint
  pub run : IsRun s constraint r
  pub fresh : List ℕ
  pub made : AreMadeDue s r rest fresh
  pub behind : now ≡ rest ++ fresh

-- its run fails
pub record IsFailure (s : State) (i : ℕ) : Type 0 where
  pub constraint : Constraint
  pub there : slice_get s.constraints i ≡ Some constraint
  pub fails : Fails s constraint

abbrev pub Turns : State → ℕ → List ℕ → Bool → State → List ℕ → Type 0
Turns s i rest true r now = IsTurn s i rest r now
Turns s i rest false r now = IsFailure s i
