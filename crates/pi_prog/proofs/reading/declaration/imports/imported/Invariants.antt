use Rattle.std.proofs.Common.{◌-◌, ◌≤◌}
use Rattle.pi_lex.specs.Kinds.{kinds}
use Rattle.pi_prog.proofs.reading.declaration.ImportLemmas.{Imported}
use Rattle.pi_prog.proofs.reading.declaration.imports.imported.Given as goal

abbrev pub invariant-names : goal.invariant-names
invariant-names l = record {
  walked : Imported (kinds l.tokens) l.from l.at l.to l.names;
  within : l.at ≤ l.to;
}

abbrev pub decreases-names : goal.decreases-names
decreases-names l = l.to - l.at
