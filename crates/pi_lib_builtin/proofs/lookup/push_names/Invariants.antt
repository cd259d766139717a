use Rattle.std.proofs.Common.{◌≡◌, ◌++◌, take}
use Rattle.pi_lib_builtin.specs.Resolved.{rows_shown, named_with}
use Rattle.pi_lib_builtin.proofs.lookup.push_names.Given as goal

-- the names of the first so many rows were pushed
abbrev pub invariant-loop-row : goal.invariant-loop-row
invariant-loop-row g l = rows_shown l.names.items ≡ rows_shown l.initial.names.items ++ named_with l.arity (rows_shown (take l.row-index l.rows))
