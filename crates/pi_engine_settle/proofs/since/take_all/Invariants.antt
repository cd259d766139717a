use Rattle.std.proofs.Common.{◌≡◌, ◌++◌, length}
use Rattle.pi_engine_settle.proofs.since.take_all.Given as goal

abbrev pub invariant-loop-i : goal.invariant-loop-i
invariant-loop-i l = l.numbers.items ++ l.due ≡ l.initial.due

abbrev pub decreases-loop-i : goal.decreases-loop-i
decreases-loop-i l = length l.due
