use Rattle.std.proofs.Common.{◌≡◌, ◌++◌, replicate}
use Rattle.pi_engine_code.proofs.build.goals.push_times.Given as goal

-- so many are pushed
abbrev pub invariant-loop-k : goal.invariant-loop-k
invariant-loop-k l = l.marks.items ≡ l.initial.marks.items ++ replicate l._k l.mark
