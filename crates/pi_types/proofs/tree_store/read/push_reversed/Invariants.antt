use Rattle.std.proofs.Common.{◌≡◌, ◌-◌, ◌++◌, drop, length}
use Rattle.pi_types.specs.TreeStoreRead.{turned}
use Rattle.pi_types.proofs.tree_store.read.push_reversed.Given as goal

abbrev pub invariant-loop-k : goal.invariant-loop-k
invariant-loop-k l = l.stack.items ≡ l.fn.stack.items ++ turned (drop (length l.terms - l.k) l.terms)
