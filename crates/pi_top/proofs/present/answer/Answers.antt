use Rattle.std.proofs.Common.{◌≡◌, ℕ, Option, Result, Ok, subst}
use Rattle.std.proofs.lemmas.Result.{err_from_is_err_and}
use Rattle.pi_outside.proofs.WriteRuns.{ByWrites-so}
use Rattle.pi_engine.specs.Seen.{machine_view}
use Rattle.pi_top.specs.declared.query.Stop.{Stop}
use Rattle.pi_top.specs.Took.{bounds_of}
use Rattle.pi_top.proofs.AnswerRuns.{Requested, Turns, answered-more, answered-end, answered-cut, ran-within}
use Rattle.pi_top.proofs.present.answer.Goals as goal

-- it is cut off
pub returns-in_err-given-clause-ran : goal.returns-in_err-given-clause-ran
returns-in_err-given-clause-ran g c =
    let next = c.write_next-next.ensures in
    λ bounded. ran-within (bounds_of c.args.manner.now) _ c.args.present.budget c.write_next-next.new.budget c.args.queries.now c.set_last.new.self c.run_of.result next.rest next.within bounded c.run_of.ensures c.set_last.ensures

pub returns-in_err-given-clause-comes : goal.returns-in_err-given-clause-comes
returns-in_err-given-clause-comes g c =
    let next = c.write_next-next.ensures in
    let manner = c.args.manner.now in
    let m = machine_view g.S.StateStore.seen g.S.StateStore.order c.args.present.machine in
    let n = machine_view g.S.StateStore.seen g.S.StateStore.order c.write_next-next.new.machine in
    let b = c.args.present.budget in
    let after = c.write_next-next.new.budget in
    let given = c.args.present.given in
    let stop : Stop = c.in_err-given.field-0.0 in
    let p = err_from_is_err_and c.from_residual.result c.from_residual.ensures.1 in
    let same : p.0 ≡ stop = p.2 in
    rw (p.1, same)
    (ByWrites-so next.comes (λ writes comes. λ first program q earlier run was can.
    let did : Requested m b after earlier c.args.queries.now c.set_last.new.self =
    record { rest = next.rest; before = run; was = was; run = c.run_of.result; its = c.run_of.ensures; set = c.set_last.ensures } in
    answered-cut manner program q m n b after given stop earlier c.args.queries.now c.set_last.new.self first writes did can
    (subst (λ (r : Result (Option ℕ) Stop). Turns manner program q m n b after given first writes r) c.in_err-given.was (comes first program q))))

-- its end was written
pub returns-in_default-clause-ran : goal.returns-in_default-clause-ran
returns-in_default-clause-ran g c =
    let next = c.write_next-next.ensures in
    λ bounded. ran-within (bounds_of c.args.manner.now) _ c.args.present.budget c.write_next-next.new.budget c.args.queries.now c.set_last.new.self c.run_of.result next.rest next.within bounded c.run_of.ensures c.set_last.ensures

pub returns-in_default-clause-comes : goal.returns-in_default-clause-comes
returns-in_default-clause-comes g c =
    let next = c.write_next-next.ensures in
    let manner = c.args.manner.now in
    let m = machine_view g.S.StateStore.seen g.S.StateStore.order c.args.present.machine in
    let n = machine_view g.S.StateStore.seen g.S.StateStore.order c.write_next-next.new.machine in
    let b = c.args.present.budget in
    let after = c.write_next-next.new.budget in
    let given = c.args.present.given in
    ByWrites-so next.comes (λ writes comes. λ first program q earlier run was can.
    let did : Requested m b after earlier c.args.queries.now c.set_last.new.self =
    record { rest = next.rest; before = run; was = was; run = c.run_of.result; its = c.run_of.ensures; set = c.set_last.ensures } in
    let turns : Turns manner program q m n b after given first writes (Ok c.in_ok-given.field-0) =
    subst (λ (r : Result (Option ℕ) Stop). Turns manner program q m n b after given first writes r) c.in_ok-given.was (comes first program q) in
    answered-end manner program q m n b after given earlier c.args.queries.now c.set_last.new.self first writes did can
    (subst (λ (o : Option ℕ). Turns manner program q m n b after given first writes (Ok o)) c.in_default.is turns))

-- one answer more was
pub returns-clause-ran : goal.returns-clause-ran
returns-clause-ran g c =
    let next = c.write_next-next.ensures in
    λ bounded. ran-within (bounds_of c.args.manner.now) _ c.args.present.budget c.write_next-next.new.budget c.args.queries.now c.set_last.new.self c.run_of.result next.rest next.within bounded c.run_of.ensures c.set_last.ensures

pub returns-clause-comes : goal.returns-clause-comes
returns-clause-comes g c =
    let next = c.write_next-next.ensures in
    let manner = c.args.manner.now in
    let m = machine_view g.S.StateStore.seen g.S.StateStore.order c.args.present.machine in
    let n = machine_view g.S.StateStore.seen g.S.StateStore.order c.write_next-next.new.machine in
    let b = c.args.present.budget in
    let after = c.write_next-next.new.budget in
    let given = c.args.present.given in
    ByWrites-so next.comes (λ writes comes. λ first program q earlier run was can.
    let did : Requested m b after earlier c.args.queries.now c.set_last.new.self =
    record { rest = next.rest; before = run; was = was; run = c.run_of.result; its = c.run_of.ensures; set = c.set_last.ensures } in
    let turns : Turns manner program q m n b after given first writes (Ok c.in_ok-given.field-0) =
    subst (λ (r : Result (Option ℕ) Stop). Turns manner program q m n b after given first writes r) c.in_ok-given.was (comes first program q) in
    answered-more manner program q m n b after given c.in-Some.given earlier c.args.queries.now c.set_last.new.self first writes did can
    (subst (λ (o : Option ℕ). Turns manner program q m n b after given first writes (Ok o)) c.in-Some.is turns))
