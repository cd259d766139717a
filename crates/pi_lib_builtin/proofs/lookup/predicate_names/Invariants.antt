use Rattle.std.proofs.Common.{◌≡◌, ◌++◌}
use Rattle.pi_lib_builtin.specs.Resolved.{rows_shown}
use Rattle.pi_lib_builtin.proofs.NamesLemmas.{printf_names}
use Rattle.pi_lib_builtin.proofs.lookup.predicate_names.Given as goal

-- `printf` was pushed with so many numbers of arguments
abbrev pub invariant-loop-more : goal.invariant-loop-more
invariant-loop-more l = rows_shown l.names.items ≡ rows_shown l.initial.names.items ++ printf_names l.more
