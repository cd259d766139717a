use Rattle.std.proofs.Common.{◌≡◌, [], None, refl, ◌∙◌}
use Rattle.std.proofs.lemmas.Result.{err_from_is_err_and, IfOk-weaker}
use Rattle.pi_core.specs.CoreTree.{program_tree}
use Rattle.pi_syntax.specs.ProgramTree.{source_tree}
use Rattle.pi_outside.proofs.InputRuns.{ByInput-none, ByInput-so, ByInput-then}
use Rattle.pi_outside.proofs.WriteRuns.{ByWrites-none, ByWrites-so, ByWrites-then}
use Rattle.pi_store.specs.contracts.state_store.RawStoreStateStore.TheImpl as raw
use Rattle.pi_outside.specs.Ahead.{at_start}
use Rattle.pi_top.specs.declared.query.Stop.TheVariants.{Memory}
use Rattle.pi_top.specs.Stops.{status_of_stop}
use Rattle.pi_top.proofs.SessionRuns.{served-first, served-more, session-ends, session-too-long, session-fault, session-stops, session-stops-at-once, cut-at-line, cut-at-end}
use Rattle.pi_top.proofs.session.Session.serve_all.Goals as goal

pub returns-in_err-reader-clause-comes : goal.returns-in_err-reader-clause-comes
returns-in_err-reader-clause-comes g c =
    let session = c.args.self.now in
    let program = source_tree session.program.now in
    let core = program_tree session.core.now in
    let p = err_from_is_err_and c.from_residual.result c.from_residual.ensures.1 in
    let memory : p.0 ≡ Memory = p.2 in
    rw (p.1, memory) (ByInput-none g.I.Source.has_read g.I.Source.rest c.args.input.now _ (ByWrites-none g.O.Sink.wrote g.O.Sink.taken c.args.out.now _ (λ may some none.
    session-stops-at-once raw.seen-value.it raw.order-value.it session.manner program core c.args.most None (at_start c.args.most) _ c.args.queries.now [] []
    (served-first raw.seen-value.it raw.order-value.it session.manner program core c.args.most c.args.queries.now none) refl)))

pub loop-turn-init : goal.loop-turn-init
loop-turn-init g c =
    let session = c.args.self.now in
    record {
      no_write_fails = refl;
      no_read_fails = refl;
      bounded = tt;
      ran = λ all. all;
      so_far = rw c.in_ok-reader.ensures (ByInput-none g.I.Source.has_read g.I.Source.rest c.args.input.now _ (ByWrites-none g.O.Sink.wrote g.O.Sink.taken c.args.out.now _ (λ may some none.
          served-first raw.seen-value.it raw.order-value.it session.manner (source_tree session.program.now) (program_tree session.core.now) c.args.most c.args.queries.now none)));
    }

-- ---- a line

pub loop-turn-preserved : goal.loop-turn-preserved
loop-turn-preserved g c =
    let l = c.loop-turn in
    let session = c.args.self.now in
    let found = c.in-Ok-Line.ensures in
    let served = c.in_ok-present-in-Ok-Line.ensures in
    record {
      no_write_fails = served.writes.no_fault ∙ l.invariant.no_write_fails;
      no_read_fails = found.no_fault ∙ l.invariant.no_read_fails;
      bounded = served.bounded l.invariant.bounded;
      ran = λ all. served.ran l.invariant.bounded (l.invariant.ran all);
      so_far = ByInput-then l.invariant.so_far (rw c.in-Ok-Line.field-0-is at found.found) (λ first second so of. ByWrites-then so served.comes (λ before its s serves. λ may some none.
          let is = s may some none in
          served-more raw.seen-value.it raw.order-value.it session.manner (source_tree session.program.now) (program_tree session.core.now) c.args.most l.present c.in_ok-present-in-Ok-Line.present l.reader c.next.new.self l.queries c.serve.new.queries
          first second before its c.in-Ok-Line.line.items is of (rw c.as_slice.ensures.value at (serves is.present may some is.keeps))));
    }

pub returns-in_err-present-in-Ok-Line-clause-comes : goal.returns-in_err-present-in-Ok-Line-clause-comes
returns-in_err-present-in-Ok-Line-clause-comes g c =
    let l = c.loop-turn in
    let session = c.args.self.now in
    let found = c.in-Ok-Line.ensures in
    let served = c.in_err-present-in-Ok-Line.ensures in
    let stop = c.in_err-present-in-Ok-Line.field-0.0 in
    let p = err_from_is_err_and c.from_residual-in_err-present-in-Ok-Line.result c.from_residual-in_err-present-in-Ok-Line.ensures.1 in
    let same : p.0 ≡ stop = p.2 in
    rw (p.1, same)
    (ByInput-then l.invariant.so_far (rw c.in-Ok-Line.field-0-is at found.found) (λ first second so of. ByWrites-then so served.comes (λ before its s serves. λ may some none.
    let is = s may some none in
    cut-at-line raw.seen-value.it raw.order-value.it session.manner (source_tree session.program.now) (program_tree session.core.now) c.args.most l.present l.reader c.next.new.self _ l.queries c.serve.new.queries
    first second before its c.in-Ok-Line.line.items (status_of_stop stop) is (found.no_fault ∙ l.invariant.no_read_fails) of (rw c.as_slice.ensures.value at (serves is.present may some is.keeps)))))

-- ---- what stands behind the last line feed

pub returns-in-Ok-Last-clause-comes : goal.returns-in-Ok-Last-clause-comes
returns-in-Ok-Last-clause-comes g c =
    let l = c.loop-turn in
    let session = c.args.self.now in
    let found = c.in-Ok-Last.ensures in
    let served = c.in_ok-serve-in-Ok-Last.ensures in
    ByInput-then l.invariant.so_far (rw c.in-Ok-Last.field-0-is at found.found) (λ first second so of. ByWrites-then so served.comes (λ before its s serves. λ may some none.
    let is = s may some none in
    session-ends raw.seen-value.it raw.order-value.it session.manner (source_tree session.program.now) (program_tree session.core.now) c.args.most l.present c.in_ok-serve-in-Ok-Last.field-0 l.reader _ l.queries c.serve-in-Ok-Last.new.queries
    first second before its c.in-Ok-Last.line.items is (found.no_fault ∙ l.invariant.no_read_fails) of (rw c.as_slice-in-Ok-Last.ensures.value at (serves is.present may some is.keeps))))

pub returns-in_err-serve-in-Ok-Last-clause-comes : goal.returns-in_err-serve-in-Ok-Last-clause-comes
returns-in_err-serve-in-Ok-Last-clause-comes g c =
    let l = c.loop-turn in
    let session = c.args.self.now in
    let found = c.in-Ok-Last.ensures in
    let served = c.in_err-serve-in-Ok-Last.ensures in
    let stop = c.in_err-serve-in-Ok-Last.field-0.0 in
    let p = err_from_is_err_and c.from_residual-in_err-serve-in-Ok-Last.result c.from_residual-in_err-serve-in-Ok-Last.ensures.1 in
    let same : p.0 ≡ stop = p.2 in
    rw (p.1, same)
    (ByInput-then l.invariant.so_far (rw c.in-Ok-Last.field-0-is at found.found) (λ first second so of. ByWrites-then so served.comes (λ before its s serves. λ may some none.
    let is = s may some none in
    cut-at-end raw.seen-value.it raw.order-value.it session.manner (source_tree session.program.now) (program_tree session.core.now) c.args.most l.present l.reader _ l.queries c.serve-in-Ok-Last.new.queries
    first second before its c.in-Ok-Last.line.items (status_of_stop stop) is (found.no_fault ∙ l.invariant.no_read_fails) of (rw c.as_slice-in-Ok-Last.ensures.value at (serves is.present may some is.keeps)))))

-- ---- the input has more bytes than it may have, or isn't read

pub returns-in-Ok-TooLong-clause-comes : goal.returns-in-Ok-TooLong-clause-comes
returns-in-Ok-TooLong-clause-comes g c =
    let l = c.loop-turn in
    let session = c.args.self.now in
    let found = c.in-Ok-TooLong.ensures in
    let ended = c.ended.ensures in
    ByInput-then l.invariant.so_far (rw c.in-Ok-TooLong.field-0-is at found.found) (λ first second so over. ByWrites-then so ended.told (λ before its s told. λ may some none.
    session-too-long raw.seen-value.it raw.order-value.it session.manner (source_tree session.program.now) (program_tree session.core.now) c.args.most l.present l.reader _ l.queries
    first second before its c.ended.result (s may some none) (found.no_fault ∙ l.invariant.no_read_fails) over ended.status ended.stops told))

pub returns-in-Err-Fault-clause-comes : goal.returns-in-Err-Fault-clause-comes
returns-in-Err-Fault-clause-comes g c =
    let l = c.loop-turn in
    let session = c.args.self.now in
    let found = c.in-Err-Fault.ensures in
    let ended = c.ended-in-Err-Fault.ensures in
    ByInput-then l.invariant.so_far (rw c.in-Err-Fault.field-0-is at found.found) (λ first second so fails. ByWrites-then so ended.told (λ before its s told. λ may some none.
    session-fault raw.seen-value.it raw.order-value.it session.manner (source_tree session.program.now) (program_tree session.core.now) c.args.most l.present l.reader _ l.queries
    first second before its c.ended-in-Err-Fault.result (s may some none) (rw l.invariant.no_read_fails at (found.fault c.in-Err-Fault.field-0-is)) fails ended.status ended.stops told))

pub returns-in-Err-Memory-clause-comes : goal.returns-in-Err-Memory-clause-comes
returns-in-Err-Memory-clause-comes g c =
    let l = c.loop-turn in
    let session = c.args.self.now in
    let found = c.in-Err-Memory.ensures in
    ByInput-then l.invariant.so_far (rw c.in-Err-Memory.field-0-is at found.found) (λ first second so stops. ByWrites-so so (λ writes s. λ may some none.
    session-stops raw.seen-value.it raw.order-value.it session.manner (source_tree session.program.now) (program_tree session.core.now) c.args.most l.present l.reader _ l.queries
    first second writes (s may some none) (found.memory c.in-Err-Memory.field-0-is ∙ l.invariant.no_read_fails) stops))

pub returns-clause-comes : goal.returns-clause-comes
returns-clause-comes g c =
    let l = c.loop-turn in
    let session = c.args.self.now in
    ByInput-so l.invariant.so_far (λ reads so. ByWrites-so so (λ writes s. λ may some none.
    session-stops-at-once raw.seen-value.it raw.order-value.it session.manner (source_tree session.program.now) (program_tree session.core.now) c.args.most l.present l.reader _ l.queries
    reads writes (s may some none) l.invariant.no_read_fails))

-- ---- what the status says of the input

pub returns-in-Ok-Last-clause-spent : goal.returns-in-Ok-Last-clause-spent
returns-in-Ok-Last-clause-spent g c = λ zero. rw c.in-Ok-Last.field-0-is at c.in-Ok-Last.ensures.end

pub returns-in-Err-Fault-clause-reads : goal.returns-in-Err-Fault-clause-reads
returns-in-Err-Fault-clause-reads g c =
    let rose = rw c.loop-turn.invariant.no_read_fails at (c.in-Err-Fault.ensures.fault c.in-Err-Fault.field-0-is) in
    IfOk-weaker c.ended-in-Err-Fault.result _ _ (λ status its seven. rose) c.ended-in-Err-Fault.ensures.status
