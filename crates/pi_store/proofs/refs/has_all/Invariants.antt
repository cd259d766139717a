use Rattle.std.proofs.Common.{◌≡◌, ℕ, ◌<◌, Some, slice_get, slice_index}
use Rattle.pi_terms.specs.ListNames.{cell_name}
use Rattle.pi_region.specs.Image.{numbers_of}
use Rattle.pi_store_blocks.specs.Form.{form_of}
use Rattle.pi_store_blocks.specs.Placed.{IsRefIn}
use Rattle.pi_store.specs.Holding.{heap_of}
use Rattle.pi_store.proofs.refs.has_all.Given as goal

abbrev pub invariant-loop-r : goal.invariant-loop-r
invariant-loop-r l = slice_get l.names.texts 0 ≡ Some cell_name → (k : ℕ) → k < l.r-index → IsRefIn (heap_of l.names l.words) (form_of (slice_index (numbers_of l.refs) k))
