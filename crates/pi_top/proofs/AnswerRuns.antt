-- A request of the present query: what was answered, and how the query is listed.
use Rattle.std.proofs.Common.{◌≡◌, ◌<◌, ℕ, ◌+◌, ◌-◌, List, [], ◌∷◌, ◌++◌, Option, None, Some, Result, Ok, Err, length, slice_set, sym, ap, subst, ◌∙◌, arith}
use Rattle.pi_outside.specs.Writes.{SinkWrite}
use Rattle.pi_core.specs.CoreTree.{PredTree, QueryTree}
use Rattle.pi_core.specs.declared.log.Work.{Work}
use Rattle.pi_meaning.specs.declared.happening.Budget.{Budget}
use Rattle.pi_meaning.specs.declared.happening.Mode.{Mode}
use Rattle.pi_meaning.specs.Machine.Budget.{IsWithin}
use Rattle.pi_meaning.specs.Machine.Built.{IsRunnable}
use Rattle.pi_engine.specs.Seen.{MachineView, mode_of}
use Rattle.pi_top.specs.declared.manner.Manner.{Manner}
use Rattle.pi_top.specs.declared.runs.QueryRun.{QueryRun}
use Rattle.pi_top.specs.declared.query.Stop.{Stop}
use Rattle.pi_top.specs.Stops.{status_of_stop}
use Rattle.pi_top.specs.Running.{IsWritten}
use Rattle.pi_top.specs.Runs.{AllWithin, RanWithin, run_of}
use Rattle.pi_top.specs.PresentCode.{IsInBudget, CanAnswer, IsListedLast, AnswersMore, AnswersEnd, AnswersCut}
use Rattle.pi_top.specs.Turn.{EndsAt, GoesOnAt, IsCutAt, TurnComes}
use Rattle.pi_top.proofs.QueryRuns.{set-last}
use Rattle.pi_top.proofs.RunLists.{AllWithin-put}
use Rattle.pi_top.proofs.Taking.{still-alone, work-is, same-steps, same-work}
use Rattle.pi_top.specs.Took.{Bounds, bounds_in, KeepsRest, AreRunsAlone, took_in}
use Rattle.pi_top.specs.QueryWords.{asked_query, told_query}

-- what a request did to the budget of a query and to the list of the queries, of which it is the last
pub record Requested {M : Type 0} (m : MachineView M) (b c : Budget) (earlier old new : List QueryRun) : Type 0 where
  pub rest : KeepsRest (mode_of m) b c
  pub before : QueryRun
  pub was : old ≡ earlier ++ before ∷ []
  pub run : QueryRun
  pub its : run ≡ record { ticks = c.ticks; work = c.work; known = 0; first = 0 }
  pub set : new ≡ slice_set old (length old - 1) run

its-run : {M : Type 0} (manner : Manner) (program : List PredTree) (q : QueryTree) (m : MachineView M) (b c : Budget) (given : ℕ) (earlier old new : List QueryRun) (first : List SinkWrite) →
    (did : Requested m b c earlier old new) → CanAnswer manner program q m b given first → did.run ≡ run_of (took_in c)
its-run manner program q m b c given earlier old new first did can =
    let so_far = can.written.so_far in
    let alone : AreRunsAlone c.work = still-alone (mode_of m) b c so_far.counts_ticks did.rest so_far.others in
    did.its ∙ ap (λ (w : Work). record { ticks = c.ticks; work = w; known = 0; first = 0 }) (work-is c.work alone)

listed-last : {M : Type 0} (manner : Manner) (program : List PredTree) (q : QueryTree) (m : MachineView M) (b c : Budget) (given : ℕ) (earlier old new : List QueryRun) (first : List SinkWrite) →
    Requested m b c earlier old new → CanAnswer manner program q m b given first → IsListedLast earlier (took_in c) new
listed-last manner program q m b c given earlier old new first did can =
    let same : did.run ≡ run_of (took_in c) = its-run manner program q m b c given earlier old new first did can in
    record { listed = set-last earlier old new did.before did.run did.was did.set ∙ ap (λ (x : QueryRun). earlier ++ x ∷ []) same }

-- what the request came to, where it could be made
abbrev pub Turns : {M : Type 0} → Manner → List PredTree → QueryTree → MachineView M → MachineView M → Budget → Budget → ℕ → List SinkWrite → List SinkWrite → Result (Option ℕ) Stop → Type 0
Turns manner program q m n b c given first writes r =
    IsWritten (told_query manner.lines program q) m b given first → IsRunnable program q → given < manner.answers → TurnComes (asked_query manner.lines manner.answers (bounds_in b) program q) given n c r (first ++ writes)

pub answered-more : {M : Type 0} (manner : Manner) (program : List PredTree) (q : QueryTree) (m n : MachineView M) (b c : Budget) (given more : ℕ) (earlier old new : List QueryRun) (first writes : List SinkWrite) →
    Requested m b c earlier old new → CanAnswer manner program q m b given first → Turns manner program q m n b c given first writes (Ok (Some more)) →
    AnswersMore manner program q n c given more earlier new (first ++ writes)
answered-more manner program q m n b c given more earlier old new first writes did can turns =
    let turn : (more ≡ given + 1) × GoesOnAt (told_query manner.lines program q) manner.answers (given + 1) n c (first ++ writes) = turns can.written can.runnable can.fewer in
    record {
      one_more = turn.0;
      can = record {
        written = subst (λ k. IsWritten (told_query manner.lines program q) n c k (first ++ writes)) (sym turn.0) turn.1.written;
        runnable = can.runnable;
        fewer = subst (λ k. k < manner.answers) (sym turn.0) turn.1.fewer;
        its_bounds = did.rest.bounds ∙ can.its_bounds;
      };
      last = listed-last manner program q m b c given earlier old new first did can;
    }

pub answered-end : {M : Type 0} (manner : Manner) (program : List PredTree) (q : QueryTree) (m n : MachineView M) (b c : Budget) (given : ℕ) (earlier old new : List QueryRun) (first writes : List SinkWrite) →
    Requested m b c earlier old new → CanAnswer manner program q m b given first → Turns manner program q m n b c given first writes (Ok None) →
    AnswersEnd manner program q given earlier new (first ++ writes)
answered-end manner program q m n b c given earlier old new first writes did can turns = record {
  took = took_in c;
  ends = subst (λ (s : Bounds). EndsAt (asked_query manner.lines manner.answers s program q) (given + 1) (took_in c) (first ++ writes)) can.its_bounds (turns can.written can.runnable can.fewer);
  last = listed-last manner program q m b c given earlier old new first did can;
}

pub answered-cut : {M : Type 0} (manner : Manner) (program : List PredTree) (q : QueryTree) (m n : MachineView M) (b c : Budget) (given : ℕ) (stop : Stop) (earlier old new : List QueryRun) (first writes : List SinkWrite) →
    Requested m b c earlier old new → CanAnswer manner program q m b given first → Turns manner program q m n b c given first writes (Err stop) →
    AnswersCut manner program q given earlier new (status_of_stop stop) (first ++ writes)
answered-cut manner program q m n b c given stop earlier old new first writes did can turns = record {
  took = took_in c;
  cut = subst (λ (s : Bounds). IsCutAt (asked_query manner.lines manner.answers s program q) (given + 1) (took_in c) (status_of_stop stop) (first ++ writes)) can.its_bounds (turns can.written can.runnable can.fewer);
  last = listed-last manner program q m b c given earlier old new first did can;
}

-- a budget's counts are within what it may take
pub run-within : (may : Bounds) (c : Budget) (run : QueryRun) → IsWithin c → bounds_in c ≡ may → run ≡ record { ticks = c.ticks; work = c.work; known = 0; first = 0 } → RanWithin may run
run-within may c run within same is =
    let steps = same-steps c may same in
    let work = same-work c may same in
    rw is (record { ticks = omega (arith, within.ticks, steps); work = omega (arith, within.work, work) })

-- each of the queries took no more than it may, still
pub ran-within : (may : Bounds) (mode : Mode) (b c : Budget) (old new : List QueryRun) (run : QueryRun) → KeepsRest mode b c → (IsWithin b → IsWithin c) → IsInBudget may b →
    run ≡ record { ticks = c.ticks; work = c.work; known = 0; first = 0 } → new ≡ slice_set old (length old - 1) run → AllWithin may old → AllWithin may new
ran-within may mode b c old new run rest within its is set all =
    AllWithin-put may old new (length old - 1) run set (run-within may c run (within its.within) (rest.bounds ∙ its.its_bounds) is) all
