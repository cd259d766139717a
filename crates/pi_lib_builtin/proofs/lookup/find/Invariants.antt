use Rattle.std.proofs.Common.{◌≡◌, drop}
use Rattle.pi_lib_builtin.specs.Resolved.{first_named, rows_shown}
use Rattle.pi_lib_builtin.proofs.lookup.find.Given as goal

-- the rows from here on say what all say
abbrev pub invariant-loop-row : goal.invariant-loop-row
invariant-loop-row g l = first_named l.name (rows_shown (drop l.row-index l.rows)) ≡ first_named l.name (rows_shown l.rows)
