use Rattle.std.proofs.Common.{◌-◌}
use Rattle.pi_constraints.specs.Store.{Keeps}
use Rattle.pi_settling.specs.Runs.{MayPropagate, work_of}
use Rattle.pi_queue.specs.Ends.{KeepsWithin}
use Rattle.pi_queue.proofs.EndLemmas.{IsBetweenTurns}
use Rattle.pi_queue.proofs.propagation.run_all.Given as goal

abbrev pub invariant-loop-i : goal.invariant-loop-i
invariant-loop-i g l = Keeps (g.S.StateStore.seen l.initial.s) (g.S.StateStore.seen l.s) × (MayPropagate (g.S.StateStore.seen l.initial.s).now.state l.initial.waiting → IsBetweenTurns (g.S.StateStore.seen l.initial.s).now.state l.initial.waiting l.limit l.initial.work l.work (g.S.StateStore.seen l.s).now.state l.waiting) × KeepsWithin l.limit l.initial.work l.work

abbrev pub decreases-loop-i : goal.decreases-loop-i
decreases-loop-i g l = l.limit - work_of l.work
