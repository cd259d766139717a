-- What calls do, as searches: as the levels of the core meaning have it, but that each answer has its path. (Own.)
use Rattle.std.specs.Prelude.{ℕ, List, Option, Some, None}
use Rattle.pi_terms.specs.Tree.{Trees}
use Rattle.pi_terms.specs.Places.{Places}
use Rattle.pi_constraints.specs.State.{State}
use Rattle.pi_traces.specs.Trace.{Trace, end, Deep, one}
use Rattle.pi_meaning.specs.Shared.Level.{Level, lowest, over, Calls, Applied, Point}
use Rattle.pi_resume_spec.specs.Ways.{plain}
use Rattle.pi_resume_spec.specs.Resumed.{Search, simple, sequence, ticked}

-- the answers of a goal without their paths
abbrev pub without_paths : {A : Type 0} → Search A → Trace A
without_paths s = plain s.ways

-- one answer, and no choice
abbrev pub only : {A : Type 0} → A → Search A
only x = simple (one x)

-- where the depth doesn't reach further
abbrev pub too_deep : {A : Type 0} → Search A
too_deep = simple (end Deep)

-- What the call of a predicate does, by name and arguments, and what draining a state does. The call of a function is a strict place, so it has no paths.
pub record Searches : Type 0 where
  pub called : List ℕ → Trees → State → Search State
  pub applied : List ℕ → Trees → State → Trace Applied
  pub drained : State → Search State

abbrev pub plain_calls : Searches → Calls
plain_calls c = record { called = λ name ts s. without_paths (c.called name ts s); applied = c.applied; drained = λ s. without_paths (c.drained s) }

-- a level: what calls do at it, and the level that a Tick leads to, where there is one
pub data SearchLevel : Type 0 where
  bottom : Searches → SearchLevel
  above : Searches → SearchLevel → SearchLevel

abbrev pub level_with : Searches → Option SearchLevel → SearchLevel
level_with c None = bottom c
level_with c (Some l) = above c l

abbrev pub searches_at : SearchLevel → Searches
searches_at (bottom c) = c
searches_at (above c l) = c

abbrev pub below : SearchLevel → Option SearchLevel
below (bottom c) = None
below (above c l) = Some l

-- the level of the core meaning that it is without paths
unfoldable pub plain_level : SearchLevel → Level
plain_level (bottom c) = lowest (plain_calls c)
plain_level (above c l) = over (plain_calls c) (plain_level l)

-- one Tick, and what follows at the lower level; and the same without a Tick
abbrev pub ticked_at : {A : Type 0} → Option SearchLevel → (SearchLevel → Search A) → Search A
ticked_at None f = too_deep
ticked_at (Some l) f = ticked (f l)

abbrev pub unticked_at : {A : Type 0} → Option SearchLevel → (SearchLevel → Search A) → Search A
unticked_at None f = too_deep
unticked_at (Some l) f = f l

-- a place in a run: how deep it may go on, what the slots of the clause hold, the state
pub record Spot : Type 0 where
  pub level : SearchLevel
  pub slots : Places
  pub state : State

abbrev pub point_of : Spot → Point
point_of p = record { level = plain_level p.level; slots = p.slots; state = p.state }

-- what a goal does, from a place
abbrev pub Tries : Type 0
Tries = Spot → Search Spot

abbrev pub in_state : Spot → State → Spot
in_state p s = record { level = p.level; slots = p.slots; state = s }

-- each goal first drains the state; an answer of a goal at a strict place counts when nothing waits any more
unfoldable pub draining : Tries → Tries
draining act p = sequence ((searches_at p.level).drained p.state) (λ s. act (in_state p s))

unfoldable pub strictly : Tries → Tries
strictly act p = sequence (act p) (draining (λ q. only q))
