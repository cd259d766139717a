use Rattle.std.proofs.Common.{◌≡◌, [], take}
use Rattle.pi_queue.specs.Waiting.{AreAdded}
use Rattle.pi_queue.proofs.WaitingLemmas.{OnSome, Itself, Differ}
use Rattle.pi_queue.proofs.waking.add_all.Given as goal

abbrev pub invariant-loop-k : goal.invariant-loop-k
invariant-loop-k l = AreAdded (OnSome Itself (take l.k l.numbers)) l.initial.waiting l.waiting × (Differ l.numbers → l.initial.waiting ≡ [] → l.waiting ≡ take l.k l.numbers)
