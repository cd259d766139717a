-- Ways to states: each begins at the start, or it is a step from an earlier one.
use Rattle.std.specs.Prelude.{◌≡◌, ℕ, ◌-◌, ◌<◌, List, Some, slice_get}
use Rattle.pi_terms.specs.Tree.{Tree}
use Rattle.pi_plan.specs.Plan.{Bodies, Step}
use Rattle.pi_plan.specs.declared.search.Way.{Way}
use Rattle.pi_plan.specs.declared.search.Origin.{Origin}

-- a way is a step, with this action, from an earlier one
pub record IsStepFrom (b : Bodies) (ways : List Way) (i : ℕ) (w : Way) (parent : ℕ) (action : Tree) : Type 0 where
  pub earlier : parent < i
  pub before : Way
  pub is_before : slice_get ways parent ≡ Some before
  pub cost : ℕ
  pub step : Step b before.place.state before.rest action cost w.place.state
  pub rest : w.rest ≡ before.rest - cost

-- where a search begins: the state, and the whole limit
pub record Root : Type 0 where
  pub state : Tree
  pub limit : ℕ

abbrev pub root : Tree → ℕ → Root
root start whole = record { state = start; limit = whole }

pub record IsStart (r : Root) (w : Way) : Type 0 where
  pub state : w.place.state ≡ r.state
  pub rest : w.rest ≡ r.limit

abbrev pub ComesFrom : Bodies → Root → List Way → ℕ → Way → Origin → Type 0
ComesFrom b r ways i w Origin.Start = IsStart r w
ComesFrom b r ways i w (Origin.Step parent action) = IsStepFrom b ways i w parent action

-- each way has the whole limit left at the start, and what a step leaves behind it
pub record AreWays (b : Bodies) (start : Tree) (whole : ℕ) (ways : List Way) : Type 0 where
  pub each : (i : ℕ) (w : Way) → slice_get ways i ≡ Some w → ComesFrom b (root start whole) ways i w w.origin
