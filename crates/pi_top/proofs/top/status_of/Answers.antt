use Rattle.std.proofs.Common.{◌≡◌, refl}
use Rattle.pi_outside.proofs.WriteRuns.{ByWrites-none, ByWrites-so}
use Rattle.pi_top.specs.declared.query.Stop.TheVariants.{Memory, Write}
use Rattle.pi_top.specs.Faults.{counted}
use Rattle.pi_top.proofs.EndStatuses.{memory-line, gives-write, gives-memory}
use Rattle.pi_top.proofs.top.status_of.Goals as goal

pub returns-in-Ok-clause-gives : goal.returns-in-Ok-clause-gives
returns-in-Ok-clause-gives g c = rw c.in-Ok.is (ByWrites-none g.O.Sink.wrote g.O.Sink.taken c.args.out.now _ (refl, refl, refl))

pub returns-in-Err-Write-clause-gives : goal.returns-in-Err-Write-clause-gives
returns-in-Err-Write-clause-gives g c =
    let write : c.in-Err-Write.field-0 ≡ Write = rw c.in-Err-Write.is at c.in-Err-Write.field-0-is in
    rw c.in-Err-Write.is (ByWrites-none g.O.Sink.wrote g.O.Sink.taken c.args.out.now _ (gives-write c.in-Err-Write.field-0 (g.O.Sink.faults c.args.out.now) write))

pub returns-in-Err-Memory-clause-gives : goal.returns-in-Err-Memory-clause-gives
returns-in-Err-Memory-clause-gives g c =
    let line = c.write_text.ensures in
    let memory : c.in-Err-Memory.field-0 ≡ Memory = rw c.in-Err-Memory.is at c.in-Err-Memory.field-0-is in
    let before = g.O.Sink.faults c.args.out.now in
    let after = g.O.Sink.faults c.write_text.new.out in
    rw c.in-Err-Memory.is
    (ByWrites-so line.hands (λ writes hands.
    gives-memory c.in-Err-Memory.field-0 (counted before after) writes memory (memory-line c.write_text.result before after writes hands line.no_fault line.rose)))
