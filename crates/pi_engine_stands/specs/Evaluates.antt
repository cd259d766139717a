-- What the evaluation of an operand does to a store and to the slots of a block.
use Rattle.std.specs.Prelude.{◌≡◌, ℕ, ◌+◌, List, [], ◌∷◌, Some, length, take, drop, slice_get, slice_index_or, ⊤, ◌-◌}
use Rattle.pi_terms.specs.Tree.{Tree, Trees, tree, comp, drop_trees}
use Rattle.pi_terms.specs.TermCells.{take_trees}
use Rattle.pi_terms.specs.Places.{Places, held}
use Rattle.pi_constraints.specs.State.{State}
use Rattle.pi_constraints.specs.Store.{IsTerm, AreTerms, Keeps}
use Rattle.pi_constraints.specs.Evaluation.{Evaluated, EvaluatedAll, slot_term}
use Rattle.pi_constraints.specs.declared.store.Ref.{Ref}
use Rattle.pi_engine_code.specs.declared.code.Part.{Part}
use Rattle.pi_engine_code.specs.Code.{Tables, term_at}
pub use Rattle.pi_engine_code.specs.Code.{operand_trees}
use Rattle.pi_engine_arenas.specs.Blocks.{BlocksView, KeepsBlocks}
use Rattle.pi_engine_arenas.specs.Arenas.{ArenasView, Between}
use Rattle.pi_engine_stands.specs.Here.{Block, block_end, Holds, IsReadablePart}

-- the same arenas with these blocks
abbrev pub with_blocks : {M : Type 0} → ArenasView M → BlocksView → ArenasView M
with_blocks a b = record { frames = a.frames; blocks = b; entries = a.entries; level = a.level; collected = a.collected }

-- The store's state becomes this one and the block's slots hold these terms, by writes to slots of the block that marks take
-- back. All else of the arenas stays, and the store keeps what it has.
pub record Writes {M : Type 0} (b : Block) (x : Between M) (f : Places) (s : State) : Type 0 where
  pub keeps : Keeps x.store x.store_then
  pub state : x.store_then.now.state ≡ s
  pub holds : Holds x.store_then.now.terms x.arenas_then.blocks.slots b f
  pub as_many : length x.arenas_then.blocks.slots ≡ length x.arenas.blocks.slots
  pub front : take (b.base + b.first) x.arenas_then.blocks.slots ≡ take (b.base + b.first) x.arenas.blocks.slots
  pub back : drop (block_end b) x.arenas_then.blocks.slots ≡ drop (block_end b) x.arenas.blocks.slots
  pub blocks : KeepsBlocks x.arenas.blocks x.arenas_then.blocks
  pub kept : x.arenas_then.blocks.kept ≡ x.arenas.blocks.kept
  pub rest : x.arenas_then ≡ with_blocks x.arenas x.arenas_then.blocks

-- a term is evaluated, and answered by its Ref
pub record Evaluates {M : Type 0} (b : Block) (x : Between M) (to : Evaluated) (r : Ref) : Type 0 where
  pub writes : Writes b x to.slots to.state
  pub term : IsTerm x.store_then r to.tree

-- terms are evaluated from the left, and answered by their Refs
pub record EvaluatesAll {M : Type 0} (b : Block) (x : Between M) (to : EvaluatedAll) (rs : List Ref) : Type 0 where
  pub writes : Writes b x to.slots to.state
  pub terms : AreTerms x.store_then rs to.trees

-- ---- the parts of a compound

-- slots that are filled, and the state then
pub record Filling : Type 0 where
  pub slots : Places
  pub state : State

-- a block is written so that they are filled
abbrev pub WritesFilling : {M : Type 0} → Block → Between M → Filling → Type 0
WritesFilling b x f = Writes b x f.slots f.state

abbrev pub after_term : Evaluated → Filling
after_term x = record { slots = x.slots; state = x.state }

abbrev pub filled_one : Part → Filling → Filling
filled_one (Part.Slot k) f = after_term (slot_term (held f.slots k) k f.slots f.state)
filled_one (Part.Known r) f = f
filled_one (Part.Compound i k) f = f

-- after the slots of parts are filled, from the left
unfoldable pub filled_by : List Part → Filling → Filling
filled_by [] f = f
filled_by (p ∷ ps) f = filled_by ps (filled_one p f)

-- a slot of a part is filled
abbrev pub IsFilledPart : Places → Part → Type 0
IsFilledPart f (Part.Slot k) = (x : Tree) × (held f k ≡ Some x)
IsFilledPart f (Part.Known r) = ⊤
IsFilledPart f (Part.Compound i k) = ⊤

-- a part, as a term of the store, in front of those that stand behind it
abbrev pub part_on : Tables → Part → Places → State → Trees → Trees
part_on t (Part.Slot k) f s us = tree (slot_term (held f k) k f s).tree us
part_on t (Part.Known r) f s us = tree (term_at t r) us
part_on t (Part.Compound i k) f s us = tree (comp (slice_index_or t.names i []) (take_trees k us)) (drop_trees k us)

-- the parts from one number to before another one
abbrev pub parts_between : Tables → ℕ → ℕ → List Part
parts_between t from to = take (to - from) (drop from t.parts)

abbrev pub AreReadableParts : Tables → Block → List Part → Type 0
AreReadableParts t b ps = (i : ℕ) (p : Part) → slice_get ps i ≡ Some p → IsReadablePart t.terms b p

abbrev pub AreFilledParts : Places → List Part → Type 0
AreFilledParts f ps = (i : ℕ) (p : Part) → slice_get ps i ≡ Some p → IsFilledPart f p
