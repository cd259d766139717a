use Rattle.std.proofs.Common.{◌≡◌, ℕ, List, ◌++◌}
use Rattle.pi_core.specs.CoreTree.{PredTree, QueryTree}
use Rattle.pi_meaning.specs.Machine.Budget.{IsWithin}
use Rattle.pi_engine.specs.Seen.{machine_view, mode_of}
use Rattle.pi_outside.specs.Writes.{ByWrites, SinkWrite}
use Rattle.pi_top.specs.declared.manner.Lines.{Lines}
use Rattle.pi_top.specs.Running.{IsSoFar}
use Rattle.pi_top.specs.QueryWords.{told_query}
use Rattle.pi_top.specs.Took.{KeepsRest}
use Rattle.pi_top.proofs.query.next_told.Given as goal

abbrev pub invariant-loop-turn : goal.invariant-loop-turn
invariant-loop-turn g l = record {
  rest : KeepsRest (mode_of (machine_view g.S.StateStore.seen g.S.StateStore.order l.initial.machine)) l.initial.budget l.budget;
  within : IsWithin l.initial.budget → IsWithin l.budget;
  mode : mode_of (machine_view g.S.StateStore.seen g.S.StateStore.order l.machine) ≡ mode_of (machine_view g.S.StateStore.seen g.S.StateStore.order l.initial.machine);
  no_fault : g.O.Sink.faults l.out ≡ g.O.Sink.faults l.initial.out;
  so_far : ByWrites g.O.Sink.wrote g.O.Sink.taken l.initial.out l.out (λ writes. (lines : Lines) (first : List SinkWrite) (given : ℕ) (program : List PredTree) (q : QueryTree) →
      IsSoFar (told_query lines program q) (machine_view g.S.StateStore.seen g.S.StateStore.order l.initial.machine) l.initial.budget given first →
      IsSoFar (told_query lines program q) (machine_view g.S.StateStore.seen g.S.StateStore.order l.machine) l.budget given (first ++ writes));
}
