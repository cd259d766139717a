use Rattle.std.proofs.Common.{◌≡◌, ◌≤◌, ◌-◌, length, drop}
use Rattle.pi_outside.specs.Writes.{ByWrites}
use Rattle.pi_top.proofs.HandedTexts.{GoesOn}
use Rattle.pi_top.proofs.handed.write_text.Given as goal

abbrev pub invariant-loop-at : goal.invariant-loop-at
invariant-loop-at g l = record {
  within : l.at ≤ length l.bytes;
  goes_on : ByWrites g.O.Sink.wrote g.O.Sink.taken l.initial.out l.out (GoesOn l.bytes (drop l.at l.bytes));
  no_fault : g.O.Sink.faults l.out ≡ g.O.Sink.faults l.initial.out;
}

abbrev pub decreases-loop-at : goal.decreases-loop-at
decreases-loop-at g l = length l.bytes - l.at
