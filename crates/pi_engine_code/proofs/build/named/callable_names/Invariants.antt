use Rattle.std.proofs.Common.{◌≡◌, ◌++◌}
use Rattle.pi_lib_builtin.specs.Resolved.{rows_shown}
use Rattle.pi_engine_code.proofs.CalledNames.{call_names}
use Rattle.pi_engine_code.proofs.build.named.callable_names.Given as goal

-- `call` was pushed with so many numbers of arguments
abbrev pub invariant-loop-more : goal.invariant-loop-more
invariant-loop-more l = rows_shown l.names.items ≡ rows_shown l.initial.names.items ++ call_names l.more
