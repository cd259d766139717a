use Rattle.std.proofs.Common.{◌≡◌, List}
use Rattle.pi_core.specs.CoreTree.{PredTree, QueryTree}
use Rattle.pi_meaning.specs.Machine.Budget.{IsWithin}
use Rattle.pi_engine.specs.Seen.{machine_view, mode_of}
use Rattle.pi_outside.specs.Writes.{ByWrites}
use Rattle.pi_top.specs.Running.{IsAtStart, IsWritten}
use Rattle.pi_top.specs.QueryWords.{told_query}
use Rattle.pi_top.specs.Took.{KeepsRest}
use Rattle.pi_top.proofs.query.write_answers.Given as goal

abbrev pub invariant-loop-given : goal.invariant-loop-given
invariant-loop-given g l = record {
  rest : KeepsRest (mode_of (machine_view g.S.StateStore.seen g.S.StateStore.order l.initial.machine)) l.initial.budget l.budget;
  within : IsWithin l.initial.budget → IsWithin l.budget;
  mode : mode_of (machine_view g.S.StateStore.seen g.S.StateStore.order l.machine) ≡ mode_of (machine_view g.S.StateStore.seen g.S.StateStore.order l.initial.machine);
  no_fault : g.O.Sink.faults l.out ≡ g.O.Sink.faults l.initial.out;
  so_far : ByWrites g.O.Sink.wrote g.O.Sink.taken l.initial.out l.out (λ writes. (program : List PredTree) (q : QueryTree) →
      IsAtStart (machine_view g.S.StateStore.seen g.S.StateStore.order l.initial.machine) l.initial.budget l.fn.manner.answers program q →
      IsWritten (told_query l.fn.manner.lines program q) (machine_view g.S.StateStore.seen g.S.StateStore.order l.machine) l.budget l.given writes);
}
