-- States from which goals of a run begin: settling one from itself adds nothing. (Own.)
use Rattle.std.specs.Prelude.{◌≡◌, ℕ, Some, slice_get}
use Rattle.pi_constraints.specs.declared.constraint.Constraint.{Constraint}
use Rattle.pi_constraints.specs.State.{State, IsState}
use Rattle.pi_settling.specs.SettlingLaws.{MaySettle}
use Rattle.pi_settling.specs.Run.{ChangesNothing}

-- a state that may settle, of which the filter of no posted constraint changes anything
pub record IsCalm (s : State) : Type 0 where
  pub state : IsState s
  pub settles : MaySettle s
  pub unchanged : (i : ℕ) (c : Constraint) → slice_get s.constraints i ≡ Some c → ChangesNothing s c
