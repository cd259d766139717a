use Rattle.std.proofs.Common.{◌-◌, ◌≤◌}
use Rattle.pi_lex.specs.Kinds.{kinds}
use Rattle.pi_prog.proofs.reading.declaration.ModesLemmas.{Goes}
use Rattle.pi_prog.proofs.reading.declaration.modes.mode_lists.Given as goal

abbrev pub invariant-lists : goal.invariant-lists
invariant-lists l = record {
  goes : Goes (kinds l.tokens) l.from l.end l.to l.lists;
  ordered : l.from ≤ l.end;
  within : l.end ≤ l.to;
}

abbrev pub decreases-lists : goal.decreases-lists
decreases-lists l = l.to - l.end
