use Rattle.pi_constraints.specs.declared.constraint.Constraint.{Constraint}
use Rattle.pi_constraints.specs.declared.domain.Span.{Span}
use Rattle.std.proofs.Common.{List}
use Rattle.pi_queue.specs.Changes.{AreTold}
use Rattle.pi_constraints.specs.Store.{Keeps}
use Rattle.pi_queue.specs.Leaving.{MayLeave, HasLeft}
use Rattle.pi_queue.proofs.leaving.leave_all.Given as goal

abbrev pub invariant-loop-k : goal.invariant-loop-k
invariant-loop-k g l = Keeps (g.S.StateStore.seen l.initial.s) (g.S.StateStore.seen l.s) × ((c : Constraint) (before left : List (List Span)) → AreTold before l.told left → MayLeave (g.S.StateStore.seen l.initial.s).now.state c l.roots before left l.initial.lost.items → HasLeft (g.S.StateStore.seen l.initial.s).now.state c l.k (g.S.StateStore.seen l.s).now.state l.lost.items)
