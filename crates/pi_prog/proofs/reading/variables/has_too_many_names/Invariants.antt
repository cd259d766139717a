use Rattle.std.proofs.Common.{◌-◌, ◌≤◌, length}
use Rattle.pi_lex.specs.Kinds.{kinds}
use Rattle.pi_expr.specs.Faults.{stretch}
use Rattle.pi_prog.specs.Pieces.{HoldsNames}
use Rattle.pi_prog_clauses.specs.Reading.{variable_names}
use Rattle.pi_prog_clauses.specs.Verdict.{most_names}
use Rattle.pi_prog.proofs.reading.variables.has_too_many_names.Given as goal

abbrev pub invariant-names : goal.invariant-names
invariant-names l = record {
  holds : HoldsNames l.names.keys (variable_names (stretch (kinds l.tokens) l.at l.to));
  few : length l.names.keys ≤ most_names;
  ordered : l.from ≤ l.at;
  within : l.at ≤ l.to;
}

abbrev pub decreases-names : goal.decreases-names
decreases-names l = l.at - l.from
