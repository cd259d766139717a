use Rattle.std.proofs.Common.{◌≤◌}
use Rattle.pi_queue.specs.Waiting.{AreAdded}
use Rattle.pi_engine_settle.proofs.AddLemmas.{IsBetween}
use Rattle.pi_engine_settle.proofs.since.add_from.Given as goal

abbrev pub invariant-loop-i : goal.invariant-loop-i
invariant-loop-i l = (l.first ≤ l.i) × AreAdded (IsBetween l.first l.end l.i) l.initial.due l.due
