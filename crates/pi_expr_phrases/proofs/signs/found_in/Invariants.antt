use Rattle.std.proofs.Common.{◌≡◌, drop}
use Rattle.pi_syntax.specs.Terminals.{found_in}
use Rattle.pi_expr_phrases.specs.Rows.{rows_shown}
use Rattle.pi_expr_phrases.proofs.signs.found_in.Given as goal

abbrev pub invariant-loop-row : goal.invariant-loop-row
invariant-loop-row l = found_in (rows_shown (drop l.row-index l.rows)) l.spelling ≡ found_in (rows_shown l.rows) l.spelling
