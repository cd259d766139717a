use Rattle.std.proofs.Common.{[], map, refl, arith}
use Rattle.std.specs.String.{string_bytes}
use Rattle.pi_outside.proofs.InputRuns.{ByInput-so}
use Rattle.pi_outside.proofs.ReadRuns.{ByReads-so}
use Rattle.pi_outside.proofs.WriteRuns.{ByWrites-then}
use Rattle.pi_top.specs.Over.{files_over, input_over, sink_over, files_count, input_count}
use Rattle.pi_top.proofs.EndStatuses.{status-given, status-most}
use Rattle.pi_top.proofs.Promises.{promised}
use Rattle.pi_top.proofs.SessionStatuses.{session-given, was-zero}
use Rattle.pi_top.proofs.top.picatq_limited.Goals as goal

pub returns : goal.returns
returns g c =
    let words = map string_bytes c.args.words.now in
    let run = c.answered-answer in
    let answer = run.ensures in
    let last = c.status_of-status in
    let gives = last.ensures.gives in
    let sink = g.O.Sink.faults in
    let files = files_over g.F.Files.has_read g.F.Files.held g.F.Files.faults c.args.files.now run.new.files in
    let input = input_over g.I.Source.has_read g.I.Source.rest g.I.Source.faults c.args.input.now run.new.input in
    let out = sink_over g.O.Sink.wrote g.O.Sink.taken sink c.args.out.now last.new.out in
    rw (c.new-log.ensures, c.new-entered.ensures)
    (promised c.args.most words files input out (record { status = last.result; queries = run.new.queries; log = []; entered = [] }) (record {
      statuses = status-most run.result last.result _ gives.writes answer.status gives.holds;
      ends = ByReads-so answer.answers (λ reads by. ByWrites-then by gives (λ first second answers given. λ no_session.
          status-given words (files.held files.new) (files_count files) run.new.queries run.result last.result (sink c.args.out.now) (sink run.new.out) (sink last.new.out)
          reads first second answer.writes (answers c.new-queries.ensures no_session) given));
      session = ByReads-so answer.session (λ reads by. ByInput-so by (λ inputs by_writes. ByWrites-then by_writes gives (λ first second answers given. λ asked is.
          session-given asked (files.held files.new) c.args.most (files_count files) (input_count input) run.new.queries run.result last.result
          (sink c.args.out.now) (sink run.new.out) (sink last.new.out) reads inputs first second answer.writes (answers c.new-queries.ensures asked is) given)));
      spent = λ asked is zero. was-zero run.result last.result _ gives.writes _ zero gives.holds (answer.spent asked is);
      never_falls = omega (arith, answer.writes.never_falls, last.ensures.never_falls);
      unread = answer.unread;
      no_input = answer.no_input;
      no_log = refl;
      none_entered = refl;
      ran = λ asked is. answer.ran asked is (rw c.new-queries.ensures tt);
    }))
