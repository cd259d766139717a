use Rattle.std.proofs.Common.{◌≡◌, ◌+◌, ◌*◌, ◌++◌, take, drop}
use Rattle.pi_store_blocks.specs.Events.{watches_of}
use Rattle.pi_store_blocks.proofs.agents.read.watches_between.Given as goal

abbrev pub invariant-loop-k : goal.invariant-loop-k
invariant-loop-k l = l.watches ++ watches_of (drop (l.start + 2 * l.k) (take l.fn.last l.words.region)) ≡ watches_of (drop l.start (take l.fn.last l.words.region))
