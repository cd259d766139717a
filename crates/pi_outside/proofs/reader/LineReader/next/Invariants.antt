use Rattle.std.proofs.Common.{◌≡◌, ◌≤◌, vec_len}
use Rattle.pi_outside.specs.Inputs.{ByInput}
use Rattle.pi_outside.specs.Ahead.{reads_left}
use Rattle.pi_outside.proofs.Turns.{SoFar}
use Rattle.pi_outside.proofs.reader.LineReader.next.Given as goal

abbrev pub invariant-piece : goal.invariant-piece
invariant-piece g l = record {
  within : vec_len l.line ≤ l.longest;
  no_fault : g.I.Source.faults l.input ≡ g.I.Source.faults l.initial.input;
  so_far : ByInput g.I.Source.has_read g.I.Source.rest l.initial.input l.input (λ reads. SoFar l.longest l.initial.self l.self l.line.items reads);
}

abbrev pub decreases-piece : goal.decreases-piece
decreases-piece g l = reads_left l.self
