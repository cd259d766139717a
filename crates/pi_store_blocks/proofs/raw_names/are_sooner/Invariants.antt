use Rattle.std.proofs.Common.{◌≡◌, ℕ, ◌<◌, true, slice_index}
use Rattle.pi_store_blocks.specs.NameTable.{is_from}
use Rattle.pi_store_blocks.proofs.raw_names.are_sooner.Given as goal

abbrev pub invariant-loop-k : goal.invariant-loop-k
invariant-loop-k l = (len j : ℕ) → j < l.k → is_from (slice_index l.others j) len ≡ true → is_from (slice_index l.words j) len ≡ true
