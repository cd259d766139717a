-- States from which goals of a run begin.
use Rattle.std.specs.Prelude.{◌≡◌, []}
use Rattle.pi_constraints.specs.State.{State}
use Rattle.pi_settling.specs.Calm.{IsCalm}

-- a state from which goals of a run begin: settling it from itself adds nothing, and no agent was made
pub record Rests (s : State) : Type 0 where
  pub calm : IsCalm s
  pub none_made : s.agents ≡ []
