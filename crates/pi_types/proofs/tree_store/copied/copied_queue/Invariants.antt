use Rattle.std.proofs.Common.{◌≡◌, take}
use Rattle.pi_types.proofs.tree_store.copied.copied_queue.Given as goal

abbrev pub invariant-loop-i : goal.invariant-loop-i
invariant-loop-i g l = l.made ≡ take l.i l.values
