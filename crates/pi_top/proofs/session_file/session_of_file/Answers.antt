use Rattle.std.proofs.Common.{inl, inr, refl}
use Rattle.std.proofs.lemmas.Result.{IfOk-weaker}
use Rattle.pi_outside.proofs.InputRuns.{ByInput-none, ByInput-so}
use Rattle.pi_outside.proofs.ReadRuns.{ByReads-so}
use Rattle.pi_outside.proofs.WriteRuns.{ByWrites-none, ByWrites-so}
use Rattle.pi_top.proofs.SessionEndings.{file-fault, file-nothing, file-read}
use Rattle.pi_top.proofs.session_file.session_of_file.Goals as goal

pub returns-in-Err-Fault-clause-answers : goal.returns-in-Err-Fault-clause-answers
returns-in-Err-Fault-clause-answers g c =
    let file = c.in-Err-Fault.ensures in
    let line = c.ended.ensures in
    ByReads-so (rw c.in-Err-Fault.field-0-is at file.reads) (λ reads fails. ByInput-none g.I.Source.has_read g.I.Source.rest c.args.input.now _ (ByWrites-so line.told (λ writes told. λ some none.
    file-fault c.args.asked.now (g.F.Files.held c.read_file.new.files) c.args.most _ _ c.args.queries.now c.ended.result reads writes (file.fault c.in-Err-Fault.field-0-is)
    (rw (← c.as_str.ensures) fails) refl none line.status line.stops told)))

pub returns-in-Err-Memory-clause-answers : goal.returns-in-Err-Memory-clause-answers
returns-in-Err-Memory-clause-answers g c =
    let file = c.in-Err-Memory.ensures in
    ByReads-so (rw c.in-Err-Memory.field-0-is at file.reads) (λ reads stops. ByInput-none g.I.Source.has_read g.I.Source.rest c.args.input.now _ (ByWrites-none g.O.Sink.wrote g.O.Sink.taken c.args.out.now _ (λ some none.
    file-nothing c.args.asked.now (g.F.Files.held c.read_file.new.files) c.args.most _ _ c.args.queries.now reads (file.memory c.in-Err-Memory.field-0-is) (rw (← c.as_str.ensures) stops) refl none)))

pub returns-clause-answers : goal.returns-clause-answers
returns-clause-answers g c =
    let file = c.in-Ok.ensures in
    ByReads-so file.reads (λ reads all_read. ByInput-so c.session_of_text.ensures.answers (λ inputs by. ByWrites-so by (λ writes answers. λ some none.
    file-read c.args.asked.now (g.F.Files.held c.read_file.new.files) c.args.most _ _ c.in-Ok.text.items c.session_of_text.new.queries c.session_of_text.result reads inputs writes file.no_fault
    (rw (← c.as_str.ensures) all_read) (rw (← c.as_str.ensures) file.read) (answers some none))))

pub returns-in-Err-Fault-clause-reads : goal.returns-in-Err-Fault-clause-reads
returns-in-Err-Fault-clause-reads g c =
    let rose = c.in-Err-Fault.ensures.fault c.in-Err-Fault.field-0-is in
    IfOk-weaker c.ended.result _ _ (λ status its seven. inl rose) c.ended.ensures.status

pub returns-clause-reads : goal.returns-clause-reads
returns-clause-reads g c = IfOk-weaker c.session_of_text.result _ _ (λ status rises seven. inr (rises seven)) c.session_of_text.ensures.reads
