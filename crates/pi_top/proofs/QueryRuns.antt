-- A query's run, call of `next` by call, and what is printed of it; and the list of the queries that were run.
use Rattle.std.proofs.Common.{◌≡◌, ◌≤◌, ℕ, suc, ◌+◌, ◌-◌, List, [], ◌∷◌, ◌++◌, Result, refl, ap, subst, ◌∙◌, arith, append_assoc, length, length-append, slice_set}
use Rattle.pi_outside.specs.Writes.{SinkWrite}
use Rattle.pi_traces.specs.Trace.{Out, Emitted, noted, answered, count_ticks}
use Rattle.pi_traces.specs.Depth.{Cut, with_events}
use Rattle.pi_meaning.specs.Shared.View.{query_view}
use Rattle.pi_core.specs.CoreTree.{PredTree, QueryTree}
use Rattle.pi_meaning.specs.CoreMeaning.Run.{Solution, IsRun}
use Rattle.pi_print_terms.specs.PrintAnswer.{answer_lines}
use Rattle.pi_core.specs.declared.answer.Answer.{Answer}
use Rattle.pi_meaning.proofs.CoreMeaning.QuietRules.{query-runs}
use Rattle.pi_meaning.specs.declared.happening.Budget.{Budget}
use Rattle.pi_meaning.specs.declared.happening.Happening.{Happening}
use Rattle.pi_meaning.specs.Machine.Built.{IsRunnable}
use Rattle.pi_engine.specs.Seen.{MachineView, GoesOn}
use Rattle.pi_engine.specs.Runs.{RunsTo}
use Rattle.pi_engine.specs.Happens.{Happens}
use Rattle.pi_top.specs.declared.manner.Lines.{Lines}
use Rattle.pi_top.specs.declared.runs.QueryRun.{QueryRun}
use Rattle.pi_top.specs.declared.query.Stop.{Stop}
use Rattle.pi_top.specs.Runs.{run_of}
use Rattle.pi_top.specs.Handing.{HandsAll, none}
use Rattle.pi_top.specs.QueryEnd.{count_answers}
use Rattle.pi_top.specs.Running.{print_solutions, IsQueryPart, IsAtStart, IsSoFar, IsWritten, Called, ComesTo, HasRun, was_asked}
use Rattle.pi_top.specs.ToldLines.{where_told}
use Rattle.pi_top.specs.Took.{Bounds, Took, IsAllowed}
use Rattle.pi_top.proofs.EventLemmas.{print-answer, one-answer, last-answer, print-text, answers-text}
use Rattle.pi_top.proofs.HandedTexts.{hands-then}
use Rattle.pi_top.proofs.Taking.{tail-of, tail-whole, takes-answer, takes-text}
use Rattle.pi_top.specs.QueryWords.{asked_query, told_query}

-- ---- a query's run

pub written-start : {M : Type 0} (lines : Lines) (m : MachineView M) (b : Budget) (answers : ℕ) (program : List PredTree) (q : QueryTree) →
    IsAtStart m b answers program q → IsWritten (told_query lines program q) m b 0 []
unfolding count_answers count_ticks print_solutions
written-start lines m b answers program q is = record {
  so_far = record {
    events = [];
    runs = is.runs;
    counts_ticks = is.counts_ticks;
    running = is.running;
    answers = refl;
    takes = record { ticks = is.unspent; runs = rw is.workless (omega arith) };
    others = record { goals = rw is.workless refl; expansions = rw is.workless refl };
    within = is.within;
    written = none;
  };
  last = λ some. absurd (omega (arith, some));
}

-- after an answer whose lines were written
pub written-answer : {M : Type 0} (lines : Lines) (m n : MachineView M) (b c : Budget) (given : ℕ) (program : List PredTree) (q : QueryTree) (a : Answer) (first second : List SinkWrite) →
    (w : IsSoFar (told_query lines program q) m b given first) → Called m n b c → Happens (query_view []) program q w.events m n b c (Happening.Answer a) → GoesOn n →
    HandsAll (where_told lines (answer_lines a)) second → IsWritten (told_query lines program q) n c (given + 1) (first ++ second)
written-answer lines m n b c given program q a first second w called happens running handed =
    let x : Solution = happens.comes.0 in
    let earlier : List (Emitted Solution) = w.events ++ happens.notes in
    let tail = tail-of (told_query lines program q) m n b c given (Happening.Answer a) happens.notes first w called happens.adds in
    let takes = tail-whole (told_query lines program q) m n b c given (Happening.Answer a) happens.notes first w called happens.adds happens.adds.others in
    let one : count_answers (earlier ++ answered x ∷ []) ≡ suc (count_answers earlier) = one-answer earlier x in
    let all : count_answers (earlier ++ answered x ∷ []) ≡ given + 1 = omega (arith, one, tail.answers) in
    record {
      so_far = record {
        events = earlier ++ answered x ∷ [];
        runs = happens.comes.2;
        counts_ticks = called.mode ∙ w.counts_ticks;
        running = running;
        answers = all;
        takes = takes-answer _ earlier x takes;
        others = tail.others;
        within = tail.within;
        written = rw (print-answer lines q.names earlier x a happens.comes.1, tail.printed) (hands-then (print_solutions lines q.names w.events) (where_told lines (answer_lines a)) first second w.written handed);
      };
      last = λ some. last-answer earlier x (given + 1) all;
    }

-- after a text that was written
pub written-text : {M : Type 0} (lines : Lines) (m n : MachineView M) (b c : Budget) (given : ℕ) (program : List PredTree) (q : QueryTree) (text : List ℕ) (first second : List SinkWrite) →
    (w : IsSoFar (told_query lines program q) m b given first) → Called m n b c → Happens (query_view []) program q w.events m n b c (Happening.Out text) → GoesOn n →
    HandsAll (text ∷ []) second → IsSoFar (told_query lines program q) n c given (first ++ second)
written-text lines m n b c given program q text first second w called happens running handed =
    let earlier : List (Emitted Solution) = w.events ++ happens.notes in
    let tail = tail-of (told_query lines program q) m n b c given (Happening.Out text) happens.notes first w called happens.adds in
    let takes = tail-whole (told_query lines program q) m n b c given (Happening.Out text) happens.notes first w called happens.adds happens.adds.others in
    record {
      events = earlier ++ noted (Out text) ∷ [];
      runs = happens.comes;
      counts_ticks = called.mode ∙ w.counts_ticks;
      running = running;
      answers = answers-text earlier text ∙ tail.answers;
      takes = takes-text _ earlier text takes;
      others = tail.others;
      within = tail.within;
      written = rw (print-text lines q.names earlier text, tail.printed) (hands-then (print_solutions lines q.names w.events) (text ∷ []) first second w.written handed);
    }

-- the events so far begin the query's run
prefix-of : {M : Type 0} (m : MachineView M) (program : List PredTree) (q : QueryTree) (events : List (Emitted Solution)) (steps : ℕ) (run : Cut Solution) → RunsTo (query_view []) m program q events →
    IsRun program q [] steps run → count_ticks events ≤ steps → IsQueryPart program q steps run events
prefix-of m program q events steps run runs is few =
    let left : ℕ = steps - count_ticks events in
    let same : steps ≡ count_ticks events + left = omega (arith, few) in
    let split : (rest : Cut Solution) × (run ≡ with_events events rest) =
    runs.begins left run (subst (λ n. IsRun program q [] n run) same is) in
    record { is_run = is; begins = record { rest = split.0.events; whole_is = ap (λ (r : Cut Solution). r.events) split.1 } }

-- a part without its last events
pub earlier-part : (program : List PredTree) (q : QueryTree) (steps : ℕ) (run : Cut Solution) (front last : List (Emitted Solution)) → IsQueryPart program q steps run (front ++ last) → IsQueryPart program q steps run front
earlier-part program q steps run front last part = record {
  is_run = part.is_run;
  begins = record {
    rest = last ++ part.begins.rest;
    whole_is = part.begins.whole_is ∙ append_assoc front last part.begins.rest;
  };
}

-- the run that the query has, of which the events so far are a part
pub record HasPart (program : List PredTree) (q : QueryTree) (steps : ℕ) (events : List (Emitted Solution)) : Type 0 where
  pub run : Cut Solution
  pub is_part : IsQueryPart program q steps run events

pub has-part : {M : Type 0} (m : MachineView M) (program : List PredTree) (q : QueryTree) (events : List (Emitted Solution)) (steps : ℕ) → IsRunnable program q → RunsTo (query_view []) m program q events →
    count_ticks events ≤ steps → HasPart program q steps events
has-part m program q events steps runnable runs few =
    let found : (run : Cut Solution) × IsRun program q [] steps run = query-runs (query_view []) program q runnable.sound.preds.ticks steps in
    record { run = found.0; is_part = prefix-of m program q events steps found.0 runs found.1 few }

-- ---- the list of queries

set-end : (runs : List QueryRun) (a b : QueryRun) → slice_set (runs ++ a ∷ []) (length runs) b ≡ runs ++ b ∷ []
set-end [] a b = refl
set-end (r ∷ runs) a b = ap (λ l. r ∷ l) (set-end runs a b)

-- the last of them is another one then
pub set-last : (runs listed new : List QueryRun) (a b : QueryRun) → listed ≡ runs ++ a ∷ [] → new ≡ slice_set listed (length listed - 1) b → new ≡ runs ++ b ∷ []
set-last runs listed new a b pushed set =
    let many : length listed ≡ length runs + 1 = ap length pushed ∙ length-append runs (a ∷ []) in
    let last : length listed - 1 ≡ length runs = omega (arith, many) in
    set ∙ ap (λ n. slice_set listed n b) last ∙ ap (λ (l : List QueryRun). slice_set l (length runs) b) pushed ∙ set-end runs a b

-- a query that was asked is listed last
pub has-run : (lines : Lines) (answers : ℕ) (may : Bounds) (program : List PredTree) (q : QueryTree) (old listed new : List QueryRun) (a run : QueryRun) (took : Took) (r : Result ℕ Stop) (writes : List SinkWrite) →
    listed ≡ old ++ a ∷ [] → new ≡ slice_set listed (length listed - 1) run → run ≡ run_of took → IsAllowed may took → ComesTo (asked_query lines answers may program q) took r writes →
    HasRun (asked_query lines answers may program q) old new r writes
has-run lines answers may program q old listed new a run took r writes pushed set is within comes = was_asked (record {
  took = took;
  listed = set-last old listed new a run pushed set ∙ ap (λ (x : QueryRun). old ++ x ∷ []) is;
  within = within;
  comes = comes;
})
