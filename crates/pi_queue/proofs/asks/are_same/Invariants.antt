use Rattle.std.proofs.Common.{◌≡◌, length, take}
use Rattle.pi_queue.proofs.asks.are_same.Given as goal

abbrev pub invariant-loop-k : goal.invariant-loop-k
invariant-loop-k g l = (length l.d ≡ length l.e) × (take l.k l.d ≡ take l.k l.e)
