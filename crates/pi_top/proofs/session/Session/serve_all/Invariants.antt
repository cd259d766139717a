use Rattle.std.proofs.Common.{◌≡◌, ◌<◌, []}
use Rattle.pi_core.specs.CoreTree.{program_tree}
use Rattle.pi_syntax.specs.ProgramTree.{source_tree}
use Rattle.pi_outside.specs.Inputs.{ByInput}
use Rattle.pi_outside.specs.Writes.{ByWrites}
use Rattle.pi_store.specs.contracts.state_store.RawStoreStateStore.TheImpl as raw
use Rattle.pi_top.specs.Runs.{AllWithin}
use Rattle.pi_top.specs.Took.{bounds_of}
use Rattle.pi_top.specs.AskingCode.{MayBeAsked}
use Rattle.pi_top.specs.PresentCode.{IsBounded}
use Rattle.pi_top.specs.SessionCode.{IsServedSoFar}
use Rattle.pi_top.proofs.session.Session.serve_all.Given as goal

abbrev pub invariant-loop-turn : goal.invariant-loop-turn
invariant-loop-turn g l = record {
  no_write_fails : g.O.Sink.faults l.out ≡ g.O.Sink.faults l.initial.out;
  no_read_fails : g.I.Source.faults l.input ≡ g.I.Source.faults l.initial.input;
  bounded : IsBounded (bounds_of l.fn.self.manner) l.present;
  ran : AllWithin (bounds_of l.fn.self.manner) l.initial.queries → AllWithin (bounds_of l.fn.self.manner) l.queries;
  so_far : ByInput g.I.Source.has_read g.I.Source.rest l.initial.input l.input (λ reads. ByWrites g.O.Sink.wrote g.O.Sink.taken l.initial.out l.out (λ writes.
      MayBeAsked (source_tree l.fn.self.program.now) (program_tree l.fn.self.core.now) → 0 < l.fn.self.manner.answers → l.initial.queries ≡ [] →
      IsServedSoFar raw.seen-value.it raw.order-value.it l.fn.self.manner (source_tree l.fn.self.program.now) (program_tree l.fn.self.core.now) l.fn.most l.present l.reader l.queries reads writes));
}
