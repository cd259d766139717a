-- What a query comes to behind so many answers: its end, with the line of it, or where it is cut off.
use Rattle.std.specs.Prelude.{IfErr}
use Rattle.std.proofs.Common.{◌≡◌, ◌<◌, ◌≤◌, ℕ, suc, ◌+◌, ◌-◌, Bool, true, false, List, [], ◌∷◌, ◌++◌, Result, Ok, Err, refl, ap, inl, inr, subst, ◌∙◌, arith}
use Rattle.std.proofs.lemmas.List.{append-nil}
use Rattle.pi_outside.specs.Writes.{SinkWrite}
use Rattle.pi_terms.specs.Tree.{Tree}
use Rattle.pi_traces.specs.Trace.{End, Done, Raise, Note, Tick, Load, Out, Emitted, noted, answered, count_ticks}
use Rattle.pi_traces.specs.Depth.{Stop as CutStop, Cut, Ended, Spent, with_events}
use Rattle.pi_meaning.specs.Shared.View.{query_view}
use Rattle.pi_core.specs.CoreTree.{PredTree, QueryTree}
use Rattle.pi_meaning.specs.CoreMeaning.Run.{Solution, IsRun}
use Rattle.pi_print_terms.specs.PrintAnswer.{answer_lines}
use Rattle.pi_core.specs.declared.answer.Answer.{Answer}
use Rattle.pi_meaning.specs.declared.happening.Budget.{Budget}
use Rattle.pi_meaning.specs.declared.happening.Happening.{Happening}
use Rattle.pi_meaning.specs.declared.happening.Mode.{Mode}
use Rattle.pi_meaning.specs.Machine.Built.{IsRunnable}
use Rattle.pi_meaning.specs.Shared.Told.{answer_of}
use Rattle.pi_engine.specs.Seen.{MachineView, mode_of, IsException, IsWork}
use Rattle.pi_engine.specs.Runs.{RunsTo}
use Rattle.pi_engine.specs.Happens.{Happens, StandsBefore, StopsBefore, IsBuiltSoFar}
use Rattle.pi_top.specs.declared.manner.Lines.{Lines}
use Rattle.pi_top.specs.declared.query.Stop.{Stop}
use Rattle.pi_top.specs.declared.query.Stop.TheVariants.{Write, Memory}
use Rattle.pi_top.specs.Stops.{status_of_stop}
use Rattle.pi_top.specs.Handing.{HandsAll, FailsIn}
use Rattle.pi_top.specs.QueryEnd.{QueryEnd, Stopped, NoMore, No, Exception, StepsSpent, WorkSpent, status_of, count_answers, EndsWithLast, IsWhole, Ends}
use Rattle.pi_top.specs.Running.{print_solutions, IsQueryPart, QueryIsCut, IsCutBehind, in_answer, in_text, in_line, at_memory, IsSoFar, IsWritten, Called, ComesTo}
use Rattle.pi_top.specs.ToldLines.{where_told, end_lines}
use Rattle.pi_top.specs.Writing.{IsCutIn, WritesLine, WritesNothing, WritesEnd}
use Rattle.pi_top.specs.Prefix.{IsPrefix}
use Rattle.pi_top.specs.Took.{Bounds, bounds_in, Took, took_in, Takes, TakesMore, SpendsWork, TakesAt}
use Rattle.pi_top.proofs.EventLemmas.{one-answer, answers-text}
use Rattle.pi_top.proofs.Fronts.{prefix-all}
use Rattle.pi_top.proofs.HandedTexts.{hands-then, fails-then}
use Rattle.pi_top.proofs.NeverAborts.{never-aborts}
use Rattle.pi_top.proofs.QueryRuns.{earlier-part, HasPart, has-part}
use Rattle.pi_top.proofs.Taking.{same-steps, all-used, tail-of, tail-whole, takes-whole, takes-answer, takes-text}
use Rattle.pi_top.specs.QueryWords.{asked_query, told_query}

-- ---- what a query comes to behind so many answers, alike for each number of answers above these that is asked for

-- its end is written
pub record EndsBehind (lines : Lines) (given : ℕ) (may : Bounds) (program : List PredTree) (q : QueryTree) (took : Took) (status : ℕ) (writes : List SinkWrite) : Type 0 where
  pub run : Cut Solution
  pub part : List (Emitted Solution)
  pub is_part : IsQueryPart program q may.steps run part
  pub ending : QueryEnd
  pub ends : (asked : ℕ) → given < asked → Ends asked part run ending
  pub takes : TakesAt may.work ending took part
  pub its_status : status ≡ status_of ending
  pub written : HandsAll (print_solutions lines q.names part ++ end_lines lines ending) writes

-- by what is answered
abbrev pub ComesBehind : Lines → ℕ → Bounds → List PredTree → QueryTree → Took → Result ℕ Stop → List SinkWrite → Type 0
ComesBehind lines given may program q took (Ok status) writes = EndsBehind lines given may program q took status writes
ComesBehind lines given may program q took (Err stop) writes = IsCutBehind (told_query lines program q) given may took (status_of_stop stop) writes

-- with one such number
pub cut-with : (lines : Lines) (answers given : ℕ) (may : Bounds) (program : List PredTree) (q : QueryTree) (took : Took) (status : ℕ) (writes : List SinkWrite) → given < answers →
    IsCutBehind (told_query lines program q) given may took status writes → QueryIsCut (asked_query lines answers may program q) took status writes
cut-with lines answers given may program q took status writes less cut = record { run = cut.run; part = cut.part; is_part = cut.is_part; how = cut.how answers less }

pub comes-with : (lines : Lines) (answers given : ℕ) (may : Bounds) (program : List PredTree) (q : QueryTree) (took : Took) (r : Result ℕ Stop) (writes : List SinkWrite) → given < answers →
    ComesBehind lines given may program q took r writes → ComesTo (asked_query lines answers may program q) took r writes
comes-with lines answers given may program q took (Ok status) writes less is = record {
  run = is.run;
  part = is.part;
  is_part = is.is_part;
  ending = is.ending;
  ends = is.ends answers less;
  takes = is.takes;
  its_status = is.its_status;
  written = is.written;
}
comes-with lines answers given may program q took (Err stop) writes less is = cut-with lines answers given may program q took (status_of_stop stop) writes less is

part-whole : (program : List PredTree) (q : QueryTree) (steps : ℕ) (events : List (Emitted Solution)) (stop : CutStop) →
    IsRun program q [] steps (record { events = events; stop = stop }) → IsQueryPart program q steps (record { events = events; stop = stop }) events
part-whole program q steps events stop is = record { is_run = is; begins = prefix-all events }

whole-of : (answers given : ℕ) (events : List (Emitted Solution)) (stop : CutStop) → count_answers events ≡ given → given < answers →
    IsWhole answers events (record { events = events; stop = stop }) stop
whole-of answers given events stop is less = record { fewer = omega (arith, is, less); whole = refl; stops = refl }

-- at an end, what it took with a propagation that was cut off too
takes-more : {A : Type 0} (work : ℕ) (ending : QueryEnd) (took : Took) (part : List (Emitted A)) → TakesAt work ending took part → TakesMore took part
takes-more work Stopped took part takes = takes-whole took part takes
takes-more work NoMore took part takes = takes-whole took part takes
takes-more work No took part takes = takes-whole took part takes
takes-more work (Exception ball) took part takes = takes-whole took part takes
takes-more work StepsSpent took part takes = takes-whole took part takes
takes-more work WorkSpent took part takes = takes.takes

-- a part with its end, whose line was to be written
comes-line : (lines : Lines) (given : ℕ) (may : Bounds) (program : List PredTree) (q : QueryTree) (events : List (Emitted Solution)) (run : Cut Solution) (ending : QueryEnd) (took : Took) (r : Result ℕ Stop) (first second : List SinkWrite) →
    IsQueryPart program q may.steps run events → ((asked : ℕ) → given < asked → Ends asked events run ending) → count_answers events ≡ given → TakesAt may.work ending took events → HandsAll (print_solutions lines q.names events) first →
    WritesLine lines ending r second → ComesBehind lines given may program q took r (first ++ second)
comes-line lines given may program q events run ending took (Ok status) first second part ends many takes handed line = record {
  run = run;
  part = events;
  is_part = part;
  ending = ending;
  ends = ends;
  takes = takes;
  its_status = line.its_status;
  written = hands-then (print_solutions lines q.names events) (end_lines lines ending) first second handed line.line.all;
}
comes-line lines given may program q events run ending took (Err Write) first second part ends many takes handed line = record {
  run = run;
  part = events;
  is_part = part;
  how = λ asked less. in_line refl ending (ends asked less) takes (fails-then (print_solutions lines q.names events) (end_lines lines ending) first second handed line.line.cut);
}
comes-line lines given may program q events run ending took (Err Memory) first second part ends many takes handed line =
    let no_more : second ≡ [] = line.line.cut in
    record { run = run; part = events; is_part = part; how = λ asked less. at_memory refl (takes-more may.work ending took events takes) (omega (arith, many, less)) (rw (no_more, append-nil first) handed) }

-- the writing of an answer's lines is cut off, in a part of which all that is before it is printed
cut-in-answer : (lines : Lines) (c : Budget) (given : ℕ) (may : Bounds) (program : List PredTree) (q : QueryTree) (a : Answer) (x : Solution) (stop : Stop) (first second : List SinkWrite) (earlier : List (Emitted Solution)) →
    HasPart program q may.steps (earlier ++ answered x ∷ []) → a ≡ answer_of q.names x → count_answers earlier ≡ given → Takes (took_in c) earlier → Takes (took_in c) (earlier ++ answered x ∷ []) →
    HandsAll (print_solutions lines q.names earlier) first → IsCutIn (where_told lines (answer_lines a)) second stop → IsCutBehind (told_query lines program q) given may (took_in c) (status_of_stop stop) (first ++ second)
cut-in-answer lines c given may program q a x Write first second earlier has is many before takes written fails =
    let one : count_answers (earlier ++ answered x ∷ []) ≡ suc (count_answers earlier) = one-answer earlier x in
    record {
      run = has.run;
      part = earlier ++ answered x ∷ [];
      is_part = has.is_part;
      how = λ asked less. in_answer refl takes earlier x refl (omega (arith, one, many, less))
          (subst (λ (t : Answer). FailsIn (print_solutions lines q.names earlier) (where_told lines (answer_lines t)) (first ++ second)) is
          (fails-then (print_solutions lines q.names earlier) (where_told lines (answer_lines a)) first second written fails));
    }
cut-in-answer lines c given may program q a x Memory first second earlier has is many before takes written nothing =
    let no_more : second ≡ [] = nothing in
    record {
      run = has.run;
      part = earlier;
      is_part = earlier-part program q may.steps has.run earlier (answered x ∷ []) has.is_part;
      how = λ asked less. at_memory refl (takes-whole (took_in c) earlier before) (omega (arith, many, less)) (rw (no_more, append-nil first) written);
    }

-- the writing of an answer's lines is cut off
pub comes-cut : {M : Type 0} (lines : Lines) (m n : MachineView M) (b c : Budget) (given : ℕ) (may : Bounds) (program : List PredTree) (q : QueryTree) (a : Answer) (stop : Stop) (first second : List SinkWrite) →
    IsRunnable program q → (w : IsSoFar (told_query lines program q) m b given first) → Called m n b c → bounds_in c ≡ may →
    Happens (query_view []) program q w.events m n b c (Happening.Answer a) → IsCutIn (where_told lines (answer_lines a)) second stop →
    IsCutBehind (told_query lines program q) given may (took_in c) (status_of_stop stop) (first ++ second)
comes-cut lines m n b c given may program q a stop first second runnable w called same happens cut =
    let x : Solution = happens.comes.0 in
    let earlier : List (Emitted Solution) = w.events ++ happens.notes in
    let events : List (Emitted Solution) = earlier ++ answered x ∷ [] in
    let tail = tail-of (told_query lines program q) m n b c given (Happening.Answer a) happens.notes first w called happens.adds in
    let before : Takes (took_in c) earlier = tail-whole (told_query lines program q) m n b c given (Happening.Answer a) happens.notes first w called happens.adds happens.adds.others in
    let takes : Takes (took_in c) events = takes-answer (took_in c) earlier x before in
    let steps : c.steps ≡ may.steps = same-steps c may same in
    let few : count_ticks events ≤ may.steps = omega (arith, takes.ticks, tail.within.ticks, steps) in
    let has : HasPart program q may.steps events = has-part n program q events may.steps runnable happens.comes.2 few in
    let written : HandsAll (print_solutions lines q.names earlier) first = rw tail.printed w.written in
    cut-in-answer lines c given may program q a x stop first second earlier has happens.comes.1 tail.answers before takes written cut

-- the writing of a text is cut off
pub text-cut : {M : Type 0} (lines : Lines) (m n : MachineView M) (b c : Budget) (given : ℕ) (program : List PredTree) (q : QueryTree) (text : List ℕ) (first second : List SinkWrite) →
    IsRunnable program q → (w : IsSoFar (told_query lines program q) m b given first) → Called m n b c →
    Happens (query_view []) program q w.events m n b c (Happening.Out text) → FailsIn [] (text ∷ []) second →
    IsCutBehind (told_query lines program q) given (bounds_in c) (took_in c) (status_of_stop Write) (first ++ second)
text-cut lines m n b c given program q text first second runnable w called happens fails =
    let earlier : List (Emitted Solution) = w.events ++ happens.notes in
    let events : List (Emitted Solution) = earlier ++ noted (Out text) ∷ [] in
    let tail = tail-of (told_query lines program q) m n b c given (Happening.Out text) happens.notes first w called happens.adds in
    let before : Takes (took_in c) earlier = tail-whole (told_query lines program q) m n b c given (Happening.Out text) happens.notes first w called happens.adds happens.adds.others in
    let takes : Takes (took_in c) events = takes-text (took_in c) earlier text before in
    let same : count_answers events ≡ count_answers earlier = answers-text earlier text in
    let few : count_ticks events ≤ c.steps = omega (arith, takes.ticks, tail.within.ticks) in
    let has : HasPart program q c.steps events = has-part n program q events c.steps runnable happens.comes few in
    let written : HandsAll (print_solutions lines q.names earlier) first = rw tail.printed w.written in
    record {
      run = has.run;
      part = events;
      is_part = has.is_part;
      how = λ asked less. in_text refl takes earlier text refl (omega (arith, same, tail.answers, less))
          (fails-then (print_solutions lines q.names earlier) (text ∷ []) first second written fails);
    }

-- memory is wanted behind all that was written
pub memory-cut : {M : Type 0} (lines : Lines) (m : MachineView M) (b : Budget) (given : ℕ) (program : List PredTree) (q : QueryTree) (writes : List SinkWrite) →
    IsRunnable program q → (w : IsSoFar (told_query lines program q) m b given writes) → IsCutBehind (told_query lines program q) given (bounds_in b) (took_in b) (status_of_stop Memory) writes
memory-cut lines m b given program q writes runnable w =
    let has : HasPart program q b.steps w.events = has-part m program q w.events b.steps runnable w.runs (omega (arith, w.takes.ticks, w.within.ticks)) in
    record { run = has.run; part = w.events; is_part = has.is_part; how = λ asked less. at_memory refl (takes-whole (took_in b) w.events w.takes) (omega (arith, w.answers, less)) w.written }

-- memory is wanted behind these events
comes-nothing : {M : Type 0} (lines : Lines) (n : MachineView M) (events : List (Emitted Solution)) (given : ℕ) (may : Bounds) (program : List PredTree) (q : QueryTree) (took : Took) (r : Result ℕ Stop) (first second : List SinkWrite) →
    IsRunnable program q → RunsTo (query_view []) n program q events → TakesMore took events → took.ticks ≤ may.steps → count_answers events ≡ given → HandsAll (print_solutions lines q.names events) first → WritesNothing r second →
    ComesBehind lines given may program q took r (first ++ second)
comes-nothing lines n events given may program q took (Ok status) first second runnable runs takes few many handed nothing = absurd nothing.stops
comes-nothing lines n events given may program q took (Err Write) first second runnable runs takes few many handed nothing = let memory : Write ≡ Memory = nothing.memory in absurd (cc)
comes-nothing lines n events given may program q took (Err Memory) first second runnable runs takes few many handed nothing =
    let has : HasPart program q may.steps events = has-part n program q events may.steps runnable runs (omega (arith, takes.ticks, few)) in
    record { run = has.run; part = events; is_part = has.is_part; how = λ asked less. at_memory refl takes (omega (arith, many, less)) (rw (nothing.nothing, append-nil first) handed) }

-- work is spent in front of a load: each run goes on with it
load-comes : (program : List PredTree) (q : QueryTree) (events : List (Emitted Solution)) (k steps : ℕ) (run : Cut Solution) → StandsBefore (query_view []) program q events (Load k) → IsRun program q [] steps run →
    count_ticks events ≤ steps → IsPrefix (events ++ noted (Load k) ∷ []) run.events
load-comes program q events k steps run next is few =
    let left : ℕ = steps - count_ticks events in
    let same : steps ≡ count_ticks events + left = omega (arith, few) in
    let split : (rest : Cut Solution) × (run ≡ with_events (events ++ noted (Load k) ∷ []) rest) = next left run (subst (λ n. IsRun program q [] n run) same is) in
    record { rest = split.0.events; whole_is = ap (λ (r : Cut Solution). r.events) split.1 }

comes-spent : {M : Type 0} (lines : Lines) (n : MachineView M) (c : Budget) (events : List (Emitted Solution)) (given : ℕ) (may : Bounds) (program : List PredTree) (q : QueryTree) (note : Note) (r : Result ℕ Stop) (first second : List SinkWrite) →
    IsRunnable program q → mode_of n ≡ Mode.Top → IsWork (mode_of n) note → StopsBefore (query_view []) program q events n note → SpendsWork may.work (took_in c) events → c.ticks ≤ may.steps → count_answers events ≡ given →
    HandsAll (print_solutions lines q.names events) first → WritesLine lines WorkSpent r second → ComesBehind lines given may program q (took_in c) r (first ++ second)
comes-spent lines n c events given may program q Tick r first second runnable top work stops spends few many handed line = absurd (rw top at work)
comes-spent lines n c events given may program q (Out text) r first second runnable top work stops spends few many handed line = absurd work
comes-spent lines n c events given may program q (Load k) r first second runnable top work stops spends few many handed line =
    let less : count_ticks events ≤ may.steps = omega (arith, spends.takes.ticks, few) in
    let has : HasPart program q may.steps events = has-part n program q events may.steps runnable stops.runs less in
    comes-line lines given may program q events has.run WorkSpent (took_in c) r first second has.is_part
    (λ asked more. record { fewer = omega (arith, many, more); load = k; next = load-comes program q events k may.steps has.run stops.next has.is_part.is_run less }) many spends handed line

-- an exception that a query's run ends in
exception-ends : (program : List PredTree) (q : QueryTree) (events : List (Emitted Solution)) (steps : ℕ) (ball : Tree) (e : End) → IsException ball e →
    IsRun program q [] steps (record { events = events; stop = Ended e }) → IsRun program q [] steps (record { events = events; stop = Ended (Raise ball) })
exception-ends program q events steps ball e (inl raised) is = rw (← raised) is
exception-ends program q events steps ball e (inr aborted) is = absurd (never-aborts program q steps (record { events = events; stop = Ended e }) ball is (ap Ended aborted))

-- a machine's end, behind so many answers
pub comes-end : {M : Type 0} (lines : Lines) (m n : MachineView M) (b c : Budget) (given : ℕ) (may : Bounds) (program : List PredTree) (q : QueryTree) (happening : Happening) (has : Bool)
    (r : Result ℕ Stop) (first second : List SinkWrite) → IsRunnable program q → (w : IsSoFar (told_query lines program q) m b given first) → Called m n b c → bounds_in c ≡ may →
    (has ≡ true → 0 < given) → (has ≡ false → given ≡ 0) → ((a : Answer) → happening ≡ Happening.Answer a → ⊥) → ((text : List ℕ) → happening ≡ Happening.Out text → ⊥) →
    IsBuiltSoFar happening → Happens (query_view []) program q w.events m n b c happening → WritesEnd lines happening has r second → ComesBehind lines given may program q (took_in c) r (first ++ second)
comes-end lines m n b c given may program q (Happening.Answer a) has r first second runnable w called same has_some has_none not_answer no_text built happens writes = absurd (not_answer a refl)
comes-end lines m n b c given may program q (Happening.Out text) has r first second runnable w called same has_some has_none not_answer no_text built happens writes = absurd (no_text text refl)
comes-end lines m n b c given may program q (Happening.NeedPlan call) has r first second runnable w called same has_some has_none not_answer no_text built happens writes = absurd built
comes-end lines m n b c given may program q Happening.WorkSpent has r first second runnable w called same has_some has_none not_answer no_text built happens writes =
    let tail = tail-of (told_query lines program q) m n b c given Happening.WorkSpent happens.notes first w called happens.adds in
    let steps = same-steps c may same in
    comes-spent lines n c (w.events ++ happens.notes) given may program q happens.comes.0 r first second runnable (called.mode ∙ w.counts_ticks) happens.comes.1 happens.comes.2
    (record { used = all-used c may tail.within tail.others same happens.comes.3; takes = tail.takes }) (omega (arith, tail.within.ticks, steps)) tail.answers (rw tail.printed w.written) writes
comes-end lines m n b c given may program q Happening.Memory has r first second runnable w called same has_some has_none not_answer no_text built happens writes =
    let tail = tail-of (told_query lines program q) m n b c given Happening.Memory happens.notes first w called happens.adds in
    let steps = same-steps c may same in
    comes-nothing lines n (w.events ++ happens.notes) given may program q (took_in c) r first second runnable happens.comes tail.takes (omega (arith, tail.within.ticks, steps)) tail.answers
    (rw tail.printed w.written) writes
comes-end lines m n b c given may program q Happening.Done true r first second runnable w called same has_some has_none not_answer no_text built happens writes =
    let tail = tail-of (told_query lines program q) m n b c given Happening.Done happens.notes first w called happens.adds in
    let takes = tail-whole (told_query lines program q) m n b c given Happening.Done happens.notes first w called happens.adds happens.adds.others in
    let steps = same-steps c may same in
    comes-line lines given may program q (w.events ++ happens.notes) _ NoMore (took_in c) r first second
    (part-whole program q may.steps (w.events ++ happens.notes) (Ended Done) (happens.comes.0 may.steps (omega (arith, tail.takes.ticks, tail.within.ticks, steps))))
    (λ asked less. (whole-of asked given (w.events ++ happens.notes) (Ended Done) tail.answers less, omega (arith, tail.answers, has_some refl))) tail.answers takes (rw tail.printed w.written) writes
comes-end lines m n b c given may program q Happening.Done false r first second runnable w called same has_some has_none not_answer no_text built happens writes =
    let tail = tail-of (told_query lines program q) m n b c given Happening.Done happens.notes first w called happens.adds in
    let takes = tail-whole (told_query lines program q) m n b c given Happening.Done happens.notes first w called happens.adds happens.adds.others in
    let steps = same-steps c may same in
    comes-line lines given may program q (w.events ++ happens.notes) _ No (took_in c) r first second
    (part-whole program q may.steps (w.events ++ happens.notes) (Ended Done) (happens.comes.0 may.steps (omega (arith, tail.takes.ticks, tail.within.ticks, steps))))
    (λ asked less. (whole-of asked given (w.events ++ happens.notes) (Ended Done) tail.answers less, omega (arith, tail.answers, has_none refl))) tail.answers takes (rw tail.printed w.written) writes
comes-end lines m n b c given may program q (Happening.Raised ball) has r first second runnable w called same has_some has_none not_answer no_text built happens writes =
    let tail = tail-of (told_query lines program q) m n b c given (Happening.Raised ball) happens.notes first w called happens.adds in
    let takes = tail-whole (told_query lines program q) m n b c given (Happening.Raised ball) happens.notes first w called happens.adds happens.adds.others in
    let steps = same-steps c may same in
    comes-line lines given may program q (w.events ++ happens.notes) _ (Exception ball) (took_in c) r first second
    (part-whole program q may.steps (w.events ++ happens.notes) (Ended (Raise ball))
    (exception-ends program q (w.events ++ happens.notes) may.steps ball happens.comes.0 happens.comes.1 (happens.comes.2 may.steps (omega (arith, tail.takes.ticks, tail.within.ticks, steps)))))
    (λ asked less. whole-of asked given (w.events ++ happens.notes) (Ended (Raise ball)) tail.answers less) tail.answers takes (rw tail.printed w.written) writes
comes-end lines m n b c given may program q Happening.StepsSpent has r first second runnable w called same has_some has_none not_answer no_text built happens writes =
    let tail = tail-of (told_query lines program q) m n b c given Happening.StepsSpent happens.notes first w called happens.adds in
    let takes = tail-whole (told_query lines program q) m n b c given Happening.StepsSpent happens.notes first w called happens.adds happens.adds.others in
    let steps = same-steps c may same in
    let spent : c.steps ≤ c.ticks = happens.comes.2 in
    let ticks : count_ticks (w.events ++ happens.notes) ≡ may.steps = omega (arith, tail.takes.ticks, tail.within.ticks, steps, spent) in
    comes-line lines given may program q (w.events ++ happens.notes) _ StepsSpent (took_in c) r first second
    (part-whole program q may.steps (w.events ++ happens.notes) Spent (subst (λ s. IsRun program q [] s (record { events = w.events ++ happens.notes; stop = Spent })) ticks happens.comes.0.next))
    (λ asked less. whole-of asked given (w.events ++ happens.notes) Spent tail.answers less) tail.answers takes (rw tail.printed w.written) writes

-- ---- where as many answers were written as are asked for

-- a part with its last answer, behind which the line was to be written
stopped-line : (lines : Lines) (answers : ℕ) (may : Bounds) (program : List PredTree) (q : QueryTree) (events : List (Emitted Solution)) (run : Cut Solution) (took : Took) (r : Result ℕ Stop) (first second : List SinkWrite) →
    IsQueryPart program q may.steps run events → EndsWithLast answers events → IfErr r (λ stop. stop ≡ Write) → Takes took events → HandsAll (print_solutions lines q.names events) first →
    WritesLine lines Stopped r second → ComesTo (asked_query lines answers may program q) took r (first ++ second)
stopped-line lines answers may program q events run took (Ok status) first second part last alone takes handed line = record {
  run = run;
  part = events;
  is_part = part;
  ending = Stopped;
  ends = last;
  takes = takes;
  its_status = line.its_status;
  written = hands-then (print_solutions lines q.names events) (end_lines lines Stopped) first second handed line.line.all;
}
stopped-line lines answers may program q events run took (Err Write) first second part last alone takes handed line =
    record { run = run; part = events; is_part = part; how = in_line refl Stopped last takes (fails-then (print_solutions lines q.names events) (end_lines lines Stopped) first second handed line.line.cut) }
stopped-line lines answers may program q events run took (Err Memory) first second part last alone takes handed line = let write : Memory ≡ Write = alone in absurd (cc)

pub comes-stopped : {M : Type 0} (lines : Lines) (m : MachineView M) (b : Budget) (answers : ℕ) (may : Bounds) (program : List PredTree) (q : QueryTree) (r : Result ℕ Stop) (first second : List SinkWrite) →
    IsRunnable program q → 0 < answers → bounds_in b ≡ may → IsWritten (told_query lines program q) m b answers first → IfErr r (λ stop. stop ≡ Write) →
    WritesLine lines Stopped r second → ComesTo (asked_query lines answers may program q) (took_in b) r (first ++ second)
comes-stopped lines m b answers may program q r first second runnable some same w alone line =
    let events : List (Emitted Solution) = w.so_far.events in
    let steps = same-steps b may same in
    let few : count_ticks events ≤ may.steps = omega (arith, w.so_far.takes.ticks, w.so_far.within.ticks, steps) in
    let has : HasPart program q may.steps events = has-part m program q events may.steps runnable w.so_far.runs few in
    stopped-line lines answers may program q events has.run (took_in b) r first second has.is_part (w.last some) alone w.so_far.takes w.so_far.written line
