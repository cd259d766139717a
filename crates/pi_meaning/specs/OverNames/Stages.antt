-- What the meaning over names is handed: what later stages of the language give, and with it what rules are run by. What calls by name are is said for this meaning and for
-- the core meaning at once. (Own.)
use Rattle.std.specs.Prelude.{ℕ, List}
use Rattle.pi_terms.specs.Tree.{Tree}
use Rattle.pi_constraints.specs.State.{State}
use Rattle.pi_syntax.specs.ExpTree.{ExpTree}
use Rattle.pi_traces.specs.Trace.{Trace, done}
use Rattle.pi_meaning.specs.Shared.Given.{Later, Setting}
use Rattle.pi_meaning.specs.CoreMeaning.Instances.{built_later}
use Rattle.pi_meaning.specs.OverNames.Place.{Place}

-- an action rule that applies: its call, its number and its events, and the place behind its condition
abbrev pub Agent : Type 0
Agent = Tree → ℕ → List ExpTree → Place → Trace State

-- constraints, labelling, events and planner calls; and agents
pub record LaterStages : Type 0 where
  pub calls : Later
  pub agent : Agent

-- What is built of them: goals of constraints and functions of domains. What the others will give is as unknown to `call` as a name that nothing has, and no rule is an agent.
abbrev pub built_stages : LaterStages
built_stages = record { calls = built_later; agent = λ call i es p. done }

-- what calls by name are, and what action rules do
pub record RulesSetting : Type 0 where
  pub calls : Setting
  pub agent : Agent
