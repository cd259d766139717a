use Rattle.std.proofs.Common.{◌-◌}
use Rattle.pi_store.specs.Read.{Pushes}
use Rattle.pi_store.proofs.read.push_args.Given as goal

abbrev pub invariant-loop-k : goal.invariant-loop-k
invariant-loop-k l = Pushes l.words.region l.r l.count (l.count - l.k) l.fn.stack.items l.stack.items
