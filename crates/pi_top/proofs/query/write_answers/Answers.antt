use Rattle.std.proofs.Common.{◌≡◌, List, Ok, ◌++◌, refl, subst, ◌∙◌, arith}
use Rattle.std.proofs.lemmas.Bool.Decides.{nat_tests}
use Rattle.std.proofs.lemmas.Result.{err_from_is_err_and}
use Rattle.pi_core.specs.CoreTree.{PredTree, QueryTree}
use Rattle.pi_engine.specs.Seen.{machine_view}
use Rattle.pi_outside.specs.Writes.{ByWrites}
use Rattle.pi_outside.proofs.WriteRuns.{ByWrites-none, ByWrites-then}
use Rattle.pi_top.specs.Stops.{status_of_stop}
use Rattle.pi_top.specs.Running.{QueryIsCut, IsAtStart, IsWritten, NextComes}
use Rattle.pi_top.proofs.QueryRuns.{written-start, written-answer}
use Rattle.pi_top.proofs.QueryEndings.{cut-with, comes-with, comes-stopped, comes-cut, comes-end}
use Rattle.pi_top.proofs.Taking.{rest-none, rest-then}
use Rattle.pi_top.specs.Took.{Bounds, bounds_in, took_in}
use Rattle.pi_top.specs.QueryWords.{asked_query, told_query}
use Rattle.pi_top.proofs.query.write_answers.Goals as goal

pub loop-given-init : goal.loop-given-init
loop-given-init g c = record {
  rest = rest-none _ c.args.budget.now;
  within = λ h. h;
  mode = refl;
  no_fault = refl;
  so_far = ByWrites-none g.O.Sink.wrote g.O.Sink.taken c.args.out.now _
      (λ program q is. written-start c.args.manner.now.lines (machine_view g.S.StateStore.seen g.S.StateStore.order c.args.machine.now) c.args.budget.now c.args.manner.now.answers program q is);
}

-- the writing of a text is cut off, or memory is wanted behind one
pub returns-in_err-end-clause-comes : goal.returns-in_err-end-clause-comes
returns-in_err-end-clause-comes g c =
    let l = c.loop-given in
    let next = c.in_err-end.ensures in
    let p = err_from_is_err_and c.from_residual.result c.from_residual.ensures.1 in
    let same : p.0 ≡ c.in_err-end.field-0.0 = p.2 in
    rw (p.1, same)
    (ByWrites-then l.invariant.so_far next.comes (λ first second so_far comes. λ program q is.
    subst (λ (may : Bounds). QueryIsCut (asked_query c.args.manner.now.lines c.args.manner.now.answers may program q) (took_in c.next_told.new.budget) (status_of_stop c.in_err-end.field-0.0) (first ++ second)) (next.rest.bounds ∙ l.invariant.rest.bounds)
    (cut-with c.args.manner.now.lines c.args.manner.now.answers l.given (bounds_in c.next_told.new.budget) program q (took_in c.next_told.new.budget) (status_of_stop c.in_err-end.field-0.0) (first ++ second) c.loop-given-test.true
    (comes c.args.manner.now.lines first l.given program q (so_far program q is).so_far is.runnable))))

pub returns-in_err-write_answer-in-Answer-clause-comes : goal.returns-in_err-write_answer-in-Answer-clause-comes
returns-in_err-write_answer-in-Answer-clause-comes g c =
    let l = c.loop-given in
    let next = c.in_ok-end.ensures in
    let n = machine_view g.S.StateStore.seen g.S.StateStore.order c.next_told.new.machine in
    let asked : ByWrites g.O.Sink.wrote g.O.Sink.taken c.args.out.now c.next_told.new.out (λ writes. (program : List PredTree) (q : QueryTree) →
    IsAtStart (machine_view g.S.StateStore.seen g.S.StateStore.order c.args.machine.now) c.args.budget.now c.args.manner.now.answers program q →
    NextComes (told_query c.args.manner.now.lines program q) l.given n c.next_told.new.budget (Ok c.in_ok-end.end) writes) =
    ByWrites-then l.invariant.so_far next.comes (λ first second so_far comes. λ program q is.
    comes c.args.manner.now.lines first l.given program q (so_far program q is).so_far is.runnable) in
    let p = err_from_is_err_and c.from_residual-in_err-write_answer-in-Answer.result c.from_residual-in_err-write_answer-in-Answer.ensures.1 in
    let same : p.0 ≡ c.in_err-write_answer-in-Answer.field-0.0 = p.2 in
    rw (p.1, same)
    (ByWrites-then asked c.in_err-write_answer-in-Answer.ensures.told (λ first second comes told. λ program q is.
    let it = comes program q is in
    cut-with c.args.manner.now.lines c.args.manner.now.answers l.given (bounds_in c.args.budget.now) program q (took_in c.next_told.new.budget) (status_of_stop c.in_err-write_answer-in-Answer.field-0.0) (first ++ second) c.loop-given-test.true
    (comes-cut c.args.manner.now.lines it.before n it.budget c.next_told.new.budget l.given (bounds_in c.args.budget.now) program q c.in-Answer.answer c.in_err-write_answer-in-Answer.field-0.0 first second
    is.runnable it.so_far it.called (next.rest.bounds ∙ l.invariant.rest.bounds) (rw c.in-Answer.is at it.happens) told.cut)))

pub returns-in_default : goal.returns-in_default
returns-in_default g c =
    let l = c.loop-given in
    let next = c.in_ok-end.ensures in
    let n = machine_view g.S.StateStore.seen g.S.StateStore.order c.next_told.new.machine in
    let asked : ByWrites g.O.Sink.wrote g.O.Sink.taken c.args.out.now c.next_told.new.out (λ writes. (program : List PredTree) (q : QueryTree) →
    IsAtStart (machine_view g.S.StateStore.seen g.S.StateStore.order c.args.machine.now) c.args.budget.now c.args.manner.now.answers program q →
    NextComes (told_query c.args.manner.now.lines program q) l.given n c.next_told.new.budget (Ok c.in_ok-end.end) writes) =
    ByWrites-then l.invariant.so_far next.comes (λ first second so_far comes. λ program q is.
    comes c.args.manner.now.lines first l.given program q (so_far program q is).so_far is.runnable) in
    record {
      writes = rw (← l.invariant.no_fault, ← next.writes.no_fault) c.write_end.ensures.writes;
      status = c.write_end.ensures.status;
      within = λ h. next.within (l.invariant.within h);
      rest = rest-then _ _ _ _ _ l.invariant.mode l.invariant.rest next.rest;
      comes = ByWrites-then asked c.write_end.ensures.told (λ first second comes told. λ program q is.
          let it = comes program q is in
          comes-with c.args.manner.now.lines c.args.manner.now.answers l.given (bounds_in c.args.budget.now) program q (took_in c.next_told.new.budget) c.write_end.result (first ++ second) c.loop-given-test.true
          (comes-end c.args.manner.now.lines it.before n it.budget c.next_told.new.budget l.given (bounds_in c.args.budget.now) program q c.in_ok-end.end _ c.write_end.result first second
          is.runnable it.so_far it.called (next.rest.bounds ∙ l.invariant.rest.bounds)
          (λ e. grind (arith, nat_tests, e)) (λ e. grind (arith, nat_tests, e)) (λ a e. c.in_default.not-Answer a e) it.no_text it.built it.happens told));
    }

pub loop-given-preserved : goal.loop-given-preserved
loop-given-preserved g c =
    let l = c.loop-given in
    let next = c.in_ok-end.ensures in
    let n = machine_view g.S.StateStore.seen g.S.StateStore.order c.next_told.new.machine in
    let asked : ByWrites g.O.Sink.wrote g.O.Sink.taken c.args.out.now c.next_told.new.out (λ writes. (program : List PredTree) (q : QueryTree) →
    IsAtStart (machine_view g.S.StateStore.seen g.S.StateStore.order c.args.machine.now) c.args.budget.now c.args.manner.now.answers program q →
    NextComes (told_query c.args.manner.now.lines program q) l.given n c.next_told.new.budget (Ok c.in_ok-end.end) writes) =
    ByWrites-then l.invariant.so_far next.comes (λ first second so_far comes. λ program q is.
    comes c.args.manner.now.lines first l.given program q (so_far program q is).so_far is.runnable) in
    record {
      rest = rest-then _ _ _ _ _ l.invariant.mode l.invariant.rest next.rest;
      within = λ h. next.within (l.invariant.within h);
      mode = next.mode ∙ l.invariant.mode;
      no_fault = c.in_ok-write_answer-in-Answer.ensures.writes.no_fault ∙ (next.writes.no_fault ∙ l.invariant.no_fault);
      so_far = ByWrites-then asked c.in_ok-write_answer-in-Answer.ensures.told (λ first second comes told. λ program q is.
          let it = comes program q is in
          written-answer c.args.manner.now.lines it.before n it.budget c.next_told.new.budget l.given program q c.in-Answer.answer first second
          it.so_far it.called (rw c.in-Answer.is at it.happens) (rw c.in-Answer.is at it.lasts) told.all);
    }

pub returns-clause-comes : goal.returns-clause-comes
returns-clause-comes g c =
    let l = c.loop-given in
    let m = machine_view g.S.StateStore.seen g.S.StateStore.order l.machine in
    let all : l.given ≡ c.args.manner.now.answers = omega (arith, c.loop-given-test.false, l.auto.given-end) in
    ByWrites-then l.invariant.so_far c.ended_behind_answers.ensures.told (λ first second so_far told. λ program q is.
    let w : IsWritten (told_query c.args.manner.now.lines program q) m l.budget c.args.manner.now.answers first = subst (λ given. IsWritten (told_query c.args.manner.now.lines program q) m l.budget given first) all (so_far program q is) in
    comes-stopped c.args.manner.now.lines m l.budget c.args.manner.now.answers (bounds_in c.args.budget.now) program q c.ended_behind_answers.result first second is.runnable is.asked l.invariant.rest.bounds w c.ended_behind_answers.ensures.stops
    (record { line = told; its_status = c.ended_behind_answers.ensures.status }))
