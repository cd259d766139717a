use Rattle.std.proofs.Common.{◌≡◌, ◌++◌, take}
use Rattle.pi_lib_builtin.specs.Resolved.{rows_shown}
use Rattle.pi_engine_code.specs.Callables.{names_called}
use Rattle.pi_engine_code.proofs.build.named.push_called.Given as goal

-- the names of the first so many predicates were pushed
abbrev pub invariant-loop-pred : goal.invariant-loop-pred
invariant-loop-pred l = rows_shown l.names.items ≡ rows_shown l.initial.names.items ++ names_called (take l.pred-index l.preds)
