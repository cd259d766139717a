use Rattle.std.proofs.Common.{◌≡◌, Some, drop, slice_get}
use Rattle.pi_terms.specs.ListNames.{cell_name}
use Rattle.pi_store_blocks.specs.AgentTable.{AreEventsIn}
use Rattle.pi_store.specs.Holding.{heap_of}
use Rattle.pi_store.proofs.refs.has_events.Given as goal

abbrev pub invariant-loop-watch : goal.invariant-loop-watch
invariant-loop-watch l = slice_get l.names.texts 0 ≡ Some cell_name → AreEventsIn (heap_of l.names l.words) (drop l.watch-index l.watches) → AreEventsIn (heap_of l.names l.words) l.watches
