-- What is true of each store over raw words.
use Rattle.std.specs.Prelude.{◌≡◌, ℕ, ◌≤◌, Some, length, slice_get}
use Rattle.pi_terms.specs.ListNames.{cell_name}
use Rattle.pi_region.specs.Image.{Image}
use Rattle.pi_region.specs.Back.{at_length}
use Rattle.pi_region.specs.declared.entry.Table.{Table}
use Rattle.pi_atoms.specs.Names.{HasDistinct}
use Rattle.pi_store_blocks.specs.Right.{IsRight}
use Rattle.pi_store_blocks.specs.Bound.{AreBound}
use Rattle.pi_store_blocks.specs.Kept.{AreKept}
use Rattle.pi_store_blocks.specs.ConstraintTable.{IsConstraintIn}
use Rattle.pi_store_blocks.specs.AgentTable.{IsAgentIn}
use Rattle.pi_store_blocks.specs.NameTable.{NameTable, names_of}
use Rattle.pi_store.specs.Waiting.{IsWaitingIn}
use Rattle.pi_store.specs.Heads.{taken_in}
use Rattle.pi_store.specs.Lists.{IsComplete}

-- something is so now, and at each length that the region had
abbrev pub AtEach : (Image → Type 0) → Image → Type 0
AtEach Q i = (len : ℕ) → Q (at_length len i)

-- no more activations were taken than were to wait
abbrev pub IsTakenWithin : Image → Type 0
IsTakenWithin i = taken_in i ≤ length i.waiting

-- the first name is that of list cells, no name has two numbers, each word was right when it was written, variables are bound to Refs,
-- blocks of domains and constraints stand in the region, what agents say and what waits are Refs, and no constraint is missing in a list
pub record IsSound (t : NameTable) (i : Image) : Type 0 where
  pub cells : slice_get t.texts 0 ≡ Some cell_name
  pub distinct : HasDistinct t.texts
  pub right : IsRight (names_of t) i
  pub bound : AreBound (names_of t) i
  pub constraints : AreKept IsConstraintIn Table.Constraints (names_of t) i
  pub agents : AreKept IsAgentIn Table.Agents (names_of t) i
  pub waiting : AreKept IsWaitingIn Table.Waiting (names_of t) i
  pub taken : AtEach IsTakenWithin i
  pub lists : AtEach IsComplete i
