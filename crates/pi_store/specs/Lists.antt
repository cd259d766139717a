-- Lists of constraints: what is posted on a variable stands in its list.
use Rattle.std.specs.Prelude.{◌≡◌, ℕ, ◌<◌, ◌≤◌, List, length, Some, slice_index}
use Rattle.pi_constraints.specs.Constraint.{SpeaksOf}
use Rattle.pi_region.specs.Image.{Image}
use Rattle.pi_store_blocks.specs.Node.{IsListed}
use Rattle.pi_store_blocks.specs.ConstraintTable.{constraint_at}
use Rattle.pi_store.specs.Walk.{next_at}
use Rattle.pi_store.specs.Heads.{list_end}

-- a variable is another one, or bound to it directly or through others, in any number of steps
pub data Leads (vs : List ℕ) : ℕ → ℕ → Type 0 where
  at_once : (n : ℕ) → Leads vs n n
  by_next : (n m : ℕ) {v : ℕ} → next_at vs n ≡ Some m → Leads vs m v → Leads vs n v

-- a number is in the list of a variable
abbrev pub IsOnList : Image → ℕ → ℕ → Type 0
IsOnList i v k = IsListed i.region (list_end i v) k

-- lists end in the region, and none is missing: a constraint is in the list of each variable to which one leads that stands in it. What is
-- there besides does no harm
pub record IsComplete (i : Image) : Type 0 where
  pub within : (v : ℕ) → list_end i v ≤ length i.region
  pub listed : (k n v : ℕ) → k < length i.constraints → SpeaksOf (constraint_at i.region (slice_index i.constraints k)) n → Leads i.variables n v → IsOnList i v k
