use Rattle.std.proofs.Common.{◌≡◌, ◌++◌, ◌-◌}
use Rattle.pi_meaning.specs.Machine.NamedGoals.{slots_from}
use Rattle.pi_meaning.proofs.named_goals.slots_below.Given as goal

-- with those that are left they are all
abbrev pub invariant-loop-i : goal.invariant-loop-i
invariant-loop-i l = l.slots.items ++ slots_from l.i (l.count - l.i) ≡ slots_from 0 l.count
