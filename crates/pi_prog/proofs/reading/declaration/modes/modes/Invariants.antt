use Rattle.std.proofs.Common.{◌-◌, ◌≤◌}
use Rattle.pi_lex.specs.Kinds.{kinds}
use Rattle.pi_prog.proofs.reading.declaration.ModesLemmas.{Walked}
use Rattle.pi_prog.proofs.reading.declaration.modes.modes.Given as goal

abbrev pub invariant-modes : goal.invariant-modes
invariant-modes l = record {
  walked : Walked (kinds l.tokens) l.from l.at l.to l.modes;
  ordered : l.from ≤ l.at;
  within : l.at ≤ l.to;
}

abbrev pub decreases-modes : goal.decreases-modes
decreases-modes l = l.to - l.at
