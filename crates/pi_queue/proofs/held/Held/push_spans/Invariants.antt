use Rattle.std.proofs.Common.{◌≡◌, ◌++◌, take}
use Rattle.pi_queue.proofs.held.Held.push_spans.Given as goal

abbrev pub invariant-loop-k : goal.invariant-loop-k
invariant-loop-k g l = l.spans.items ≡ l.initial.spans.items ++ take l.k l.self
