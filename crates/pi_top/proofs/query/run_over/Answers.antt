use Rattle.std.proofs.Common.{◌≡◌, [], ◌∷◌, ◌++◌, refl, ap, sym, subst, ◌∙◌}
use Rattle.std.proofs.lemmas.Result.{err_from_is_err_and}
use Rattle.pi_core.specs.CoreTree.{program_tree, query_tree}
use Rattle.pi_core.specs.declared.log.Work.{Work}
use Rattle.pi_meaning.specs.Machine.Budget.{IsWithin}
use Rattle.pi_outside.proofs.WriteRuns.{ByWrites-none, ByWrites-so}
use Rattle.pi_top.specs.Runs.{AllWithin, RanWithin, run_of}
use Rattle.pi_top.specs.Running.{not_asked}
use Rattle.pi_top.specs.Took.{bounds_of, AreRunsAlone, nothing_taken, took_in, IsAllowed}
use Rattle.pi_top.proofs.AnswerRuns.{run-within}
use Rattle.pi_top.proofs.QueryRuns.{set-last, has-run}
use Rattle.pi_top.proofs.Taking.{is-allowed, still-alone, work-is}
use Rattle.pi_top.proofs.RunLists.{AllWithin-push}
use Rattle.pi_top.proofs.query.run_over.Goals as goal

pub returns-in_err-begun-clause-comes : goal.returns-in_err-begun-clause-comes
returns-in_err-begun-clause-comes g c =
    let begun = c.in_err-begun.ensures in
    let p = err_from_is_err_and c.from_residual.result c.from_residual.ensures.1 in
    let same : p.0 ≡ c.in_err-begun.field-0.0 = p.2 in
    rw (p.1, same, begun.memory, begun.unlisted) (ByWrites-none g.O.Sink.wrote g.O.Sink.taken c.args.out.now _ (λ empty runnable asked. not_asked refl refl refl))

pub returns-in_err-begun-clause-ran : goal.returns-in_err-begun-clause-ran
returns-in_err-begun-clause-ran g c = λ all. rw c.in_err-begun.ensures.unlisted all

pub returns-clause-ran : goal.returns-clause-ran
returns-clause-ran g c =
    let run = c.write_answers-status.ensures in
    let begun = c.in_ok-begun.ensures in
    let may = bounds_of c.args.manner.now in
    let within : IsWithin c.write_answers-status.new.budget = run.within begun.bounded.within in
    let few : RanWithin may c.run_of.result = run-within may c.write_answers-status.new.budget c.run_of.result within (run.rest.bounds ∙ begun.bounded.its_bounds) c.run_of.ensures in
    let listed : c.set_last.new.self ≡ c.args.queries.now ++ c.run_of.result ∷ [] =
    set-last c.args.queries.now c.begin.new.queries c.set_last.new.self (run_of nothing_taken) c.run_of.result begun.listed c.set_last.ensures in
    λ all. subst (AllWithin may) (sym listed) (AllWithin-push may c.args.queries.now c.run_of.result few all)

pub returns-clause-comes : goal.returns-clause-comes
returns-clause-comes g c =
    let run = c.write_answers-status.ensures in
    let begun = c.in_ok-begun.ensures in
    let may = bounds_of c.args.manner.now in
    let program = program_tree c.args.core.now in
    let q = query_tree c.args.query in
    let budget = c.write_answers-status.new.budget in
    let within : IsWithin budget = run.within begun.bounded.within in
    let few : IsAllowed may (took_in budget) = is-allowed budget may within (run.rest.bounds ∙ begun.bounded.its_bounds) in
    let start : AreRunsAlone c.in_ok-begun.begun.budget.work = record { goals = rw begun.workless refl; expansions = rw begun.workless refl } in
    let alone : AreRunsAlone budget.work = still-alone _ _ budget begun.counts_ticks run.rest start in
    let listed : c.run_of.result ≡ run_of (took_in budget) = c.run_of.ensures ∙ ap (λ (w : Work). record { ticks = budget.ticks; work = w; known = 0; first = 0 }) (work-is budget.work alone) in
    ByWrites-so run.comes (λ writes comes. λ empty runnable asked.
    has-run c.args.manner.now.lines c.args.manner.now.answers may program q c.args.queries.now c.begin.new.queries c.set_last.new.self (run_of nothing_taken) c.run_of.result
    (took_in budget) c.write_answers-status.result writes begun.listed c.set_last.ensures listed few
    (rw begun.bounded.its_bounds at (comes program q (begun.starts empty runnable asked))))
