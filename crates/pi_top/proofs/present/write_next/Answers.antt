use Rattle.std.proofs.Common.{◌≡◌, ◌<◌, ◌+◌, List, Ok, Err, ◌++◌, refl, subst, arith, append_assoc}
use Rattle.std.proofs.lemmas.Bool.Decides.{nat_tests}
use Rattle.std.proofs.lemmas.Result.{err_from_is_err_and}
use Rattle.pi_core.specs.CoreTree.{PredTree, QueryTree}
use Rattle.pi_outside.specs.Writes.{SinkWrite, ByWrites}
use Rattle.pi_outside.proofs.WriteRuns.{ByWrites-so, ByWrites-then}
use Rattle.pi_meaning.specs.Machine.Built.{IsRunnable}
use Rattle.pi_engine.specs.Seen.{machine_view}
use Rattle.pi_top.specs.Running.{IsWritten}
use Rattle.pi_top.specs.Stops.{status_of_stop}
use Rattle.pi_top.proofs.QueryEndings.{comes-stopped, comes-cut, comes-end}
use Rattle.pi_top.specs.Turn.{EndsAt, IsCutAt}
use Rattle.pi_top.proofs.TurnRuns.{next-answer, ends-at, ends-at-limit, cut-at, cut-at-limit}
use Rattle.pi_top.specs.Took.{bounds_in, took_in}
use Rattle.pi_top.specs.QueryWords.{asked_query, told_query}
use Rattle.pi_top.proofs.present.write_next.Goals as goal

-- the writing of a text is cut off, or memory is wanted behind one
pub returns-in_err-end-clause-comes : goal.returns-in_err-end-clause-comes
returns-in_err-end-clause-comes g c =
    let next = c.in_err-end.ensures in
    let lines = c.args.manner.now.lines in
    let after = c.next_told.new.budget in
    let p = err_from_is_err_and c.from_residual.result c.from_residual.ensures.1 in
    let same : p.0 ≡ c.in_err-end.field-0.0 = p.2 in
    rw (p.1, same)
    (ByWrites-so next.comes (λ writes comes. λ first program q w runnable less.
    cut-at lines c.args.manner.now.answers c.args.given (bounds_in c.args.budget.now) (bounds_in after) program q (took_in after) (status_of_stop c.in_err-end.field-0.0) (first ++ writes) next.rest.bounds less
    (comes lines first c.args.given program q w.so_far runnable)))

-- an answer's lines
pub returns-in_err-write_answer-in-Answer-clause-comes : goal.returns-in_err-write_answer-in-Answer-clause-comes
returns-in_err-write_answer-in-Answer-clause-comes g c =
    let next = c.in_ok-end.ensures in
    let lines = c.args.manner.now.lines in
    let n = machine_view g.S.StateStore.seen g.S.StateStore.order c.next_told.new.machine in
    let after = c.next_told.new.budget in
    let may = bounds_in c.args.budget.now in
    let stop = c.in_err-write_answer-in-Answer.field-0.0 in
    let p = err_from_is_err_and c.from_residual-in_err-write_answer-in-Answer.result c.from_residual-in_err-write_answer-in-Answer.ensures.1 in
    let same : p.0 ≡ stop = p.2 in
    rw (p.1, same)
    (ByWrites-then next.comes c.in_err-write_answer-in-Answer.ensures.told (λ before its comes told. λ first program q w runnable less.
    let it = comes lines first c.args.given program q w.so_far runnable in
    subst (λ (all : List SinkWrite). IsCutAt (asked_query lines c.args.manner.now.answers may program q) (c.args.given + 1) (took_in after) (status_of_stop stop) all) (append_assoc first before its)
    (cut-at lines c.args.manner.now.answers c.args.given may may program q (took_in after) (status_of_stop stop) ((first ++ before) ++ its) refl less
    (comes-cut lines it.before n it.budget after c.args.given may program q c.in-Answer.answer stop (first ++ before) its
    runnable it.so_far it.called next.rest.bounds (rw c.in-Answer.is at it.happens) told.cut))))

-- the line of an end
pub returns-in_err-write_end-in_default-clause-comes : goal.returns-in_err-write_end-in_default-clause-comes
returns-in_err-write_end-in_default-clause-comes g c =
    let next = c.in_ok-end.ensures in
    let lines = c.args.manner.now.lines in
    let n = machine_view g.S.StateStore.seen g.S.StateStore.order c.next_told.new.machine in
    let after = c.next_told.new.budget in
    let may = bounds_in c.args.budget.now in
    let stop = c.in_err-write_end-in_default.field-0.0 in
    let p = err_from_is_err_and c.from_residual-in_err-write_end-in_default.result c.from_residual-in_err-write_end-in_default.ensures.1 in
    let same : p.0 ≡ stop = p.2 in
    rw (p.1, same)
    (ByWrites-then next.comes c.in_err-write_end-in_default.ensures.told (λ before its comes told. λ first program q w runnable less.
    let it = comes lines first c.args.given program q w.so_far runnable in
    subst (λ (all : List SinkWrite). IsCutAt (asked_query lines c.args.manner.now.answers may program q) (c.args.given + 1) (took_in after) (status_of_stop stop) all) (append_assoc first before its)
    (cut-at lines c.args.manner.now.answers c.args.given may may program q (took_in after) (status_of_stop stop) ((first ++ before) ++ its) refl less
    (comes-end lines it.before n it.budget after c.args.given may program q c.in_ok-end.end _ (Err stop) (first ++ before) its
    runnable it.so_far it.called next.rest.bounds (λ e. grind (arith, nat_tests, e)) (λ e. grind (arith, nat_tests, e)) (λ a e. c.in_default.not-Answer a e) it.no_text it.built it.happens told))))

pub returns-in_default-clause-comes : goal.returns-in_default-clause-comes
returns-in_default-clause-comes g c =
    let next = c.in_ok-end.ensures in
    let lines = c.args.manner.now.lines in
    let n = machine_view g.S.StateStore.seen g.S.StateStore.order c.next_told.new.machine in
    let after = c.next_told.new.budget in
    let may = bounds_in c.args.budget.now in
    ByWrites-then next.comes c.in_ok-write_end-in_default.ensures.told (λ before its comes told. λ first program q w runnable less.
    let it = comes lines first c.args.given program q w.so_far runnable in
    subst (λ (all : List SinkWrite). EndsAt (asked_query lines c.args.manner.now.answers may program q) (c.args.given + 1) (took_in after) all) (append_assoc first before its)
    (ends-at lines c.args.manner.now.answers c.args.given may program q (took_in after) c.in_ok-write_end-in_default.field-0 ((first ++ before) ++ its)
    (comes-end lines it.before n it.budget after c.args.given may program q c.in_ok-end.end _ (Ok c.in_ok-write_end-in_default.field-0) (first ++ before) its
    runnable it.so_far it.called next.rest.bounds (λ e. grind (arith, nat_tests, e)) (λ e. grind (arith, nat_tests, e)) (λ a e. c.in_default.not-Answer a e) it.no_text it.built it.happens told)))

-- one answer more was written
pub returns-then-given-last-clause-comes : goal.returns-then-given-last-clause-comes
returns-then-given-last-clause-comes g c =
    let next = c.in_ok-end.ensures in
    let lines = c.args.manner.now.lines in
    let n = machine_view g.S.StateStore.seen g.S.StateStore.order c.next_told.new.machine in
    let after = c.next_told.new.budget in
    ByWrites-then next.comes c.in_ok-write_answer-in-Answer.ensures.told (λ before its comes told. λ first program q w runnable less.
    let it = comes lines first c.args.given program q w.so_far runnable in
    let written = next-answer lines n after c.args.given program q c.in_ok-end.end c.in-Answer.answer (first ++ before) its c.in-Answer.is it told.all in
    (refl, record { written = subst (λ (all : List SinkWrite). IsWritten (told_query lines program q) n after (c.args.given + 1) all) (append_assoc first before its) written; fewer = omega (arith, c.if-given-last.true, c.saturating_sub-last.ensures) }))

-- as many as are asked for, and the line that says so is cut off
pub returns-in_err-ended_behind_answers-clause-comes : goal.returns-in_err-ended_behind_answers-clause-comes
returns-in_err-ended_behind_answers-clause-comes g c =
    let next = c.in_ok-end.ensures in
    let ended = c.in_err-ended_behind_answers.ensures in
    let lines = c.args.manner.now.lines in
    let n = machine_view g.S.StateStore.seen g.S.StateStore.order c.next_told.new.machine in
    let after = c.next_told.new.budget in
    let may = bounds_in c.args.budget.now in
    let stop = c.in_err-ended_behind_answers.field-0.0 in
    let p = err_from_is_err_and c.from_residual-in_err-ended_behind_answers.result c.from_residual-in_err-ended_behind_answers.ensures.1 in
    let same : p.0 ≡ stop = p.2 in
    let written : ByWrites g.O.Sink.wrote g.O.Sink.taken c.args.out.now c.write_answer.new.out (λ writes. (first : List SinkWrite) (program : List PredTree) (q : QueryTree) →
    IsWritten (told_query lines program q) (machine_view g.S.StateStore.seen g.S.StateStore.order c.args.machine.now) c.args.budget.now c.args.given first → IsRunnable program q → c.args.given < c.args.manner.now.answers →
    IsWritten (told_query lines program q) n after (c.args.given + 1) (first ++ writes)) =
    ByWrites-then next.comes c.in_ok-write_answer-in-Answer.ensures.told (λ before its comes told. λ first program q w runnable less.
    subst (λ (all : List SinkWrite). IsWritten (told_query lines program q) n after (c.args.given + 1) all) (append_assoc first before its)
    (next-answer lines n after c.args.given program q c.in_ok-end.end c.in-Answer.answer (first ++ before) its c.in-Answer.is (comes lines first c.args.given program q w.so_far runnable) told.all)) in
    rw (p.1, same)
    (ByWrites-then written ended.told (λ earlier last so_far told. λ first program q w runnable less.
    subst (λ (all : List SinkWrite). IsCutAt (asked_query lines c.args.manner.now.answers may program q) (c.args.given + 1) (took_in after) (status_of_stop stop) all) (append_assoc first earlier last)
    (cut-at-limit lines c.args.manner.now.answers (c.args.given + 1) may program q (took_in after) (status_of_stop stop) ((first ++ earlier) ++ last) (omega (arith, less, c.if-given-last.false, c.saturating_sub-last.ensures))
    (comes-stopped lines n after (c.args.given + 1) may program q (Err stop) (first ++ earlier) last runnable (omega arith) next.rest.bounds (so_far first program q w runnable less) ended.stops
    (record { line = told; its_status = tt })))))

-- or written
pub returns-clause-comes : goal.returns-clause-comes
returns-clause-comes g c =
    let next = c.in_ok-end.ensures in
    let ended = c.in_ok-ended_behind_answers.ensures in
    let lines = c.args.manner.now.lines in
    let n = machine_view g.S.StateStore.seen g.S.StateStore.order c.next_told.new.machine in
    let after = c.next_told.new.budget in
    let may = bounds_in c.args.budget.now in
    let written : ByWrites g.O.Sink.wrote g.O.Sink.taken c.args.out.now c.write_answer.new.out (λ writes. (first : List SinkWrite) (program : List PredTree) (q : QueryTree) →
    IsWritten (told_query lines program q) (machine_view g.S.StateStore.seen g.S.StateStore.order c.args.machine.now) c.args.budget.now c.args.given first → IsRunnable program q → c.args.given < c.args.manner.now.answers →
    IsWritten (told_query lines program q) n after (c.args.given + 1) (first ++ writes)) =
    ByWrites-then next.comes c.in_ok-write_answer-in-Answer.ensures.told (λ before its comes told. λ first program q w runnable less.
    subst (λ (all : List SinkWrite). IsWritten (told_query lines program q) n after (c.args.given + 1) all) (append_assoc first before its)
    (next-answer lines n after c.args.given program q c.in_ok-end.end c.in-Answer.answer (first ++ before) its c.in-Answer.is (comes lines first c.args.given program q w.so_far runnable) told.all)) in
    ByWrites-then written ended.told (λ earlier last so_far told. λ first program q w runnable less.
    subst (λ (all : List SinkWrite). EndsAt (asked_query lines c.args.manner.now.answers may program q) (c.args.given + 1) (took_in after) all) (append_assoc first earlier last)
    (ends-at-limit lines c.args.manner.now.answers (c.args.given + 1) may program q (took_in after) c.in_ok-ended_behind_answers.field-0 ((first ++ earlier) ++ last) (omega (arith, less, c.if-given-last.false, c.saturating_sub-last.ensures))
    (comes-stopped lines n after (c.args.given + 1) may program q (Ok c.in_ok-ended_behind_answers.field-0) (first ++ earlier) last runnable (omega arith) next.rest.bounds (so_far first program q w runnable less) tt
    (record { line = told; its_status = ended.status }))))
