-- Nodes of lists in a region: three words that say nothing by themselves, a number and where two other lists end.
use Rattle.std.specs.Prelude.{◌≡◌, ℕ, zero, suc, ◌-◌, ◌<◌, min, List, [], ◌∷◌, length, slice_index}
use Rattle.pi_region.specs.Entry.{data_of, value_of}
use Rattle.pi_region.specs.Image.{Image, appended}
use Rattle.pi_region.specs.Back.{Advances}
use Rattle.pi_store_blocks.specs.declared.lists.node.Node.{Node}

-- the words of a node
abbrev pub node_of : ℕ → ℕ → ℕ → List ℕ
node_of number first second = data_of number ∷ data_of first ∷ data_of second ∷ []

-- a place that a word says, and no later one than this
abbrev pub list_within : List ℕ → ℕ → ℕ → ℕ
list_within words place most = min (value_of (slice_index words place)) most

-- the node that ends at a place, whatever stands there; its lists end where it begins at the latest
abbrev pub node_at : List ℕ → ℕ → Node
node_at words end = record { number = value_of (slice_index words (end - 3)); first = list_within words (end - 2) (end - 3); second = list_within words (end - 1) (end - 3) }

-- a number is in the list that ends at a place; that which ends at 0 has none
pub data IsListed (words : List ℕ) : ℕ → ℕ → Type 0 where
  here : (end : ℕ) → 0 < end → IsListed words end (node_at words end).number
  in_first : (end : ℕ) {k : ℕ} → 0 < end → IsListed words (node_at words end).first k → IsListed words end k
  in_second : (end : ℕ) {k : ℕ} → 0 < end → IsListed words (node_at words end).second k → IsListed words end k

-- the number of the node that ends at a place, and where its lists end; no node ends at 0
abbrev pub numbers_at : List ℕ → ℕ → List ℕ
numbers_at words zero = []
numbers_at words (suc last) = (node_at words (suc last)).number ∷ []

abbrev pub ends_at : List ℕ → ℕ → List ℕ
ends_at words zero = []
ends_at words (suc last) = (node_at words (suc last)).first ∷ (node_at words (suc last)).second ∷ []

-- a node at the end of the region, and nothing else; its list ends where the region does
pub record WritesNode (old new : Image) (number first second place : ℕ) : Type 0 where
  pub words : new ≡ appended old (node_of number first second)
  pub end : place ≡ length new.region
  pub advances : Advances old new
