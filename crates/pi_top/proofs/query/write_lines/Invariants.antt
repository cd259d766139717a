use Rattle.std.proofs.Common.{◌≡◌, take}
use Rattle.pi_outside.specs.Writes.{ByWrites}
use Rattle.pi_top.specs.Handing.{HandsAll}
use Rattle.pi_top.proofs.query.write_lines.Given as goal

abbrev pub invariant-loop-line : goal.invariant-loop-line
invariant-loop-line g l = record {
  no_fault : g.O.Sink.faults l.out ≡ g.O.Sink.faults l.initial.out;
  handed : ByWrites g.O.Sink.wrote g.O.Sink.taken l.initial.out l.out (HandsAll (take l.line-index l.line-items));
}
