use Rattle.std.proofs.Common.{◌≡◌, take}
use Rattle.pi_types.proofs.tree_store.copied.copied_all.Given as goal

abbrev pub invariant-loop-value : goal.invariant-loop-value
invariant-loop-value g l = l.made.items ≡ take l.value-index l.values
