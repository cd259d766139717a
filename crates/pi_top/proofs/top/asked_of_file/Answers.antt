use Rattle.pi_outside.proofs.ReadRuns.{ByReads-so}
use Rattle.pi_outside.proofs.WriteRuns.{ByWrites-none, ByWrites-so}
use Rattle.pi_top.specs.Faults.{counted}
use Rattle.pi_top.proofs.Endings.{file-fault, file-nothing, file-read, of-printed, of-text}
use Rattle.pi_top.proofs.top.asked_of_file.Goals as goal

pub returns-in-Err-Fault-clause-answers : goal.returns-in-Err-Fault-clause-answers
returns-in-Err-Fault-clause-answers g c =
    let file = c.in-Err-Fault.ensures in
    let line = c.ended.ensures in
    let files = counted (g.F.Files.faults c.args.files.now) (g.F.Files.faults c.read_file.new.files) in
    ByReads-so (rw c.in-Err-Fault.field-0-is at file.reads) (λ reads fails. ByWrites-so line.told (λ writes told. λ some none.
    file-fault c.args.asked.now (g.F.Files.held c.read_file.new.files) files c.args.queries.now c.ended.result reads writes (file.fault c.in-Err-Fault.field-0-is)
    (rw (← c.as_str.ensures) fails) none line.status line.stops told))

pub returns-in-Err-Memory-clause-answers : goal.returns-in-Err-Memory-clause-answers
returns-in-Err-Memory-clause-answers g c =
    let file = c.in-Err-Memory.ensures in
    let files = counted (g.F.Files.faults c.args.files.now) (g.F.Files.faults c.read_file.new.files) in
    ByReads-so (rw c.in-Err-Memory.field-0-is at file.reads) (λ reads stops. ByWrites-none g.O.Sink.wrote g.O.Sink.taken c.args.out.now _ (λ some none.
    file-nothing c.args.asked.now (g.F.Files.held c.read_file.new.files) files c.args.queries.now reads (file.memory c.in-Err-Memory.field-0-is) (rw (← c.as_str.ensures) stops) none))

pub returns-in-Print-clause-answers : goal.returns-in-Print-clause-answers
returns-in-Print-clause-answers g c =
    let file = c.in-Ok.ensures in
    let files = counted (g.F.Files.faults c.args.files.now) (g.F.Files.faults c.read_file.new.files) in
    ByReads-so file.reads (λ reads all_read. ByWrites-so c.print_text.ensures.answers (λ writes answers. λ some none.
    file-read c.args.asked.now (g.F.Files.held c.read_file.new.files) files c.in-Ok.text.items c.args.queries.now c.print_text.result reads writes file.no_fault
    (rw (← c.as_str.ensures) all_read) (rw (← c.as_str.ensures) file.read)
    (of-printed c.args.asked.now c.in-Ok.text.items c.args.queries.now c.print_text.result writes c.in-Print.is (answers c.args.queries.now none))))

pub returns-in_default-clause-answers : goal.returns-in_default-clause-answers
returns-in_default-clause-answers g c =
    let file = c.in-Ok.ensures in
    let files = counted (g.F.Files.faults c.args.files.now) (g.F.Files.faults c.read_file.new.files) in
    let text = c.in-Ok.text.items in
    ByReads-so file.reads (λ reads all_read. ByWrites-so c.asked_of_text.ensures.answers (λ writes answers. λ some none.
    file-read c.args.asked.now (g.F.Files.held c.read_file.new.files) files text c.asked_of_text.new.queries c.asked_of_text.result reads writes file.no_fault
    (rw (← c.as_str.ensures) all_read) (rw (← c.as_str.ensures) file.read)
    (of-text c.args.asked.now text c.asked_of_text.new.queries c.asked_of_text.result writes c.in_default.not-Print (answers some none))))
