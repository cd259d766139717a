use Rattle.std.proofs.Common.{◌≡◌, ◌++◌, drop}
use Rattle.pi_settling.specs.Events.{lost_values}
use Rattle.pi_agent.specs.Lost.{excluded}
use Rattle.pi_agent.proofs.losses.push_lost.Given as goal

abbrev pub invariant-loop-i : goal.invariant-loop-i
invariant-loop-i l = l.events ++ excluded l.v l.ends (lost_values (drop l.i l.old) l.new) ≡ l.initial.events ++ excluded l.v l.ends (lost_values l.old l.new)
