-- Where two texts come to a line, that is what is written; where they ask a goal of a program, it is run. And what they come to is one.
use Rattle.std.proofs.Common.{◌≡◌, ◌≢◌, ◌<◌, ◌+◌, inr, ℕ, suc, List, [], ◌∷◌, ◌++◌, map, refl, sym, ap, subst, ◌∙◌, arith}
use Rattle.pi_syntax.specs.ExpTree.{ExpTree}
use Rattle.pi_syntax.specs.ProgramTree.{ProgramTree}
use Rattle.pi_print_program.specs.Canonical.{canonical_text}
use Rattle.pi_core.specs.declared.log.LogEntry.{LogEntry}
use Rattle.pi_traces.specs.Trace.{Done, Raise, Emitted, noted, answered, count_ticks}
use Rattle.pi_traces.specs.Depth.{Cut, Stop, Ended, Spent}
use Rattle.pi_meaning.specs.Shared.View.{query_view}
use Rattle.pi_meaning.specs.OverNames.Telling.{Told}
use Rattle.pi_meaning.specs.OverNames.Stages.{built_stages}
use Rattle.pi_meaning.proofs.OverNames.GrowRules.{built-stages-add, names-runs-are-one}
use Rattle.pi_top.specs.declared.runs.QueryRun.{QueryRun}
use Rattle.pi_top.specs.declared.manner.Manner.{Manner}
use Rattle.pi_top.specs.FaultLines.{of_program}
use Rattle.pi_top.specs.Headline.{Headline}
use Rattle.pi_top.specs.Judged.{Refused, Asks}
use Rattle.pi_top.specs.Prefix.{IsPrefix}
use Rattle.pi_top.specs.Printing.{print}
use Rattle.pi_top.specs.QueryEnd.{QueryEnd, Stopped, NoMore, No, Exception, StepsSpent, WorkSpent, status_of, count_answers, EndsWithLast, IsWhole, Ends}
use Rattle.pi_top.specs.Runs.{HasRan, run_of, but_for_runs}
use Rattle.pi_top.specs.SoleLine.{IsLine}
use Rattle.pi_top.specs.Statuses.{ComesText, refused, ran, ComesPrinted, faulty, printed}
use Rattle.pi_top.specs.ToldLines.{end_lines}
use Rattle.pi_top.proofs.EndingLemmas.{ending-is-one}
use Rattle.pi_top.proofs.EventLemmas.{answers-append}
use Rattle.pi_top.proofs.Judging.{AreOne, one-line, not-both, one-asked, one-program, one-program-line, program-no-line}
use Rattle.pi_top.specs.Told.{lists}
use Rattle.pi_top.specs.Took.{Took, TakesAt, SpendsWork}

no-three : (ending : QueryEnd) → status_of ending ≢ 3
no-three Stopped e = absurd (omega (arith, e))
no-three NoMore e = absurd (omega (arith, e))
no-three No e = absurd (omega (arith, e))
no-three (Exception ball) e = absurd (omega (arith, e))
no-three StepsSpent e = absurd (omega (arith, e))
no-three WorkSpent e = absurd (omega (arith, e))

pub refused-written : (o : AreOne) (manner : Manner) (text goal line : List ℕ) (texts : List (List ℕ)) (queries : List QueryRun) (log : List LogEntry) (status : ℕ) → Refused text goal line →
    ComesText manner text goal (lists queries log) status texts → IsLine line 3 status queries texts
refused-written o manner text goal line texts queries log status is (refused other that written) =
    subst (λ (l : List ℕ). IsLine l 3 status queries texts) (one-line o text goal other line that is) written
refused-written o manner text goal line texts queries log status is (ran program of_program asks has) = absurd (not-both o text goal line program of_program is asks)

pub asked-run : (o : AreOne) (manner : Manner) (text goal : List ℕ) (texts : List (List ℕ)) (p : ProgramTree) (e : ExpTree) (queries : List QueryRun) (log : List LogEntry) (status : ℕ) →
    Asks text goal p e → ComesText manner text goal (lists queries log) status texts → status ≢ 3
asked-run o manner text goal texts p e queries log status is (refused line that written) three = absurd (not-both o text goal line p e that is)
asked-run o manner text goal texts p e queries log status is (ran program of_program asks has) three = no-three has.headline.ending (sym has.headline.its_status ∙ three)

-- ---- one part of a run

-- an answer counts where it stands
count-last : (front : List (Emitted Told)) (x : Told) → count_answers (front ++ answered x ∷ []) ≡ suc (count_answers front)
unfolding count_answers
count-last front x = let all = answers-append front (answered x ∷ []) in omega (arith, all)

-- two fronts of one list that each end with the same number of answers, at an answer, are one
behind-nothing : (x : Told) (front rest more : List (Emitted Told)) → count_answers (front ++ answered x ∷ []) ≡ 0 → [] ≡ front ++ answered x ∷ [] → ⊥
behind-nothing x [] rest more none e = cc
behind-nothing x (y ∷ front) rest more none e = cc

same-lasts : (n : ℕ) (front other rest more : List (Emitted Told)) (x y : Told) → count_answers (front ++ answered x ∷ []) ≡ n → count_answers (other ++ answered y ∷ []) ≡ n →
    (front ++ answered x ∷ []) ++ rest ≡ (other ++ answered y ∷ []) ++ more → front ++ answered x ∷ [] ≡ other ++ answered y ∷ []
unfolding count_answers
same-lasts n [] [] rest more x y a b e = let same : x ≡ y = cc in ap (λ z. answered z ∷ []) same
same-lasts n [] (z ∷ other) rest more x y a b e =
    let head : answered x ≡ z = cc in
    let counts : count_answers (answered x ∷ (other ++ answered y ∷ [])) ≡ n = rw (← head) at b in
    let last = count-last other y in
    absurd (omega (arith, a, counts, last))
same-lasts n (z ∷ front) [] rest more x y a b e =
    let head : z ≡ answered y = cc in
    let counts : count_answers (answered y ∷ (front ++ answered x ∷ [])) ≡ n = rw head at a in
    let last = count-last front x in
    absurd (omega (arith, b, counts, last))
same-lasts n (noted k ∷ front) (z ∷ other) rest more x y a b e =
    let head : noted k ≡ z = cc in
    let tail : (front ++ answered x ∷ []) ++ rest ≡ (other ++ answered y ∷ []) ++ more = cc in
    let counts : count_answers (other ++ answered y ∷ []) ≡ n = rw (← head) at b in
    rw (← head) (ap (λ l. noted k ∷ l) (same-lasts n front other rest more x y a counts tail))
same-lasts n (answered k ∷ front) (z ∷ other) rest more x y a b e =
    let head : answered k ≡ z = cc in
    let tail : (front ++ answered x ∷ []) ++ rest ≡ (other ++ answered y ∷ []) ++ more = cc in
    let counts : suc (count_answers (other ++ answered y ∷ [])) ≡ n = rw (← head) at b in
    let here : count_answers (other ++ answered y ∷ []) ≡ count_answers (front ++ answered x ∷ []) = omega (arith, a, counts) in
    rw (← head) (ap (λ l. answered k ∷ l) (same-lasts (count_answers (front ++ answered x ∷ [])) front other rest more x y refl here tail))

pub one-last : (asked : ℕ) (part other all : List (Emitted Told)) → IsPrefix part all → IsPrefix other all → EndsWithLast asked part → EndsWithLast asked other → part ≡ other
one-last asked part other all a b last lasts =
    let whole : (last.front ++ answered last.last ∷ []) ++ a.rest ≡ (lasts.front ++ answered lasts.last ∷ []) ++ b.rest =
    ap (λ l. l ++ a.rest) (sym last.is) ∙ sym a.whole_is ∙ b.whole_is ∙ ap (λ l. l ++ b.rest) lasts.is in
    last.is
    ∙ same-lasts asked last.front lasts.front a.rest b.rest last.last lasts.last (ap count_answers (sym last.is) ∙ last.all) (ap count_answers (sym lasts.is) ∙ lasts.all) whole
    ∙ sym lasts.is

one-whole : (asked : ℕ) (part other : List (Emitted Told)) (run : Cut Told) (a b : Stop) → IsWhole asked part run a → IsWhole asked other run b → part ≡ other
one-whole asked part other run a b first second = sym first.whole ∙ second.whole

-- a front that has all answers that are asked for doesn't begin a run with fewer
pub last-no-whole : {X : Type 0} (asked : ℕ) (part other : List (Emitted Told)) (run : Cut Told) (stop : Stop) → IsPrefix part run.events → EndsWithLast asked part → IsWhole asked other run stop → X
last-no-whole asked part other run stop begins last whole =
    let all : count_answers run.events ≡ count_answers part + count_answers begins.rest = ap count_answers begins.whole_is ∙ answers-append part begins.rest in
    let same : count_answers run.events ≡ count_answers other = ap count_answers whole.whole in
    absurd (omega (arith, all, same, last.all, whole.fewer))

-- how an end stands to its part that isn't in front of a load: it ends with the last answer, or it is the whole of the run
pub data Stands (asked : ℕ) (part : List (Emitted Told)) (run : Cut Told) : Type 0 where
  with_last : EndsWithLast asked part → Stands asked part run
  is_whole : (stop : Stop) → IsWhole asked part run stop → Stands asked part run

pub stands : (asked : ℕ) (part : List (Emitted Told)) (run : Cut Told) (ending : QueryEnd) → (ending ≡ WorkSpent → ⊥) → Ends asked part run ending → Stands asked part run
stands asked part run Stopped left is = with_last is
stands asked part run NoMore left is = is_whole (Ended Done) is.0
stands asked part run No left is = is_whole (Ended Done) is.0
stands asked part run (Exception ball) left is = is_whole (Ended (Raise ball)) is
stands asked part run StepsSpent left is = is_whole Spent is
stands asked part run WorkSpent left is = absurd (left refl)

pub one-part : (asked : ℕ) (part other : List (Emitted Told)) (run : Cut Told) → IsPrefix part run.events → IsPrefix other run.events → Stands asked part run → Stands asked other run → part ≡ other
one-part asked part other run a b (with_last last) (with_last lasts) = one-last asked part other run.events a b last lasts
one-part asked part other run a b (with_last last) (is_whole stop whole) = last-no-whole asked part other run stop a last whole
one-part asked part other run a b (is_whole stop whole) (with_last lasts) = last-no-whole asked other part run stop b lasts whole
one-part asked part other run a b (is_whole stop whole) (is_whole stops wholes) = one-whole asked part other run stop stops whole wholes

-- ---- one outcome

-- what two headlines of one goal have in common: their parts and ends; of the runs of propagators there are bounds alone
record AreSame (took others : Took) (status other : ℕ) (texts more : List (List ℕ)) : Type 0 where
  pub same_ticks : took.ticks ≡ others.ticks
  pub same_status : status ≡ other
  pub same_texts : texts ≡ more

-- the Ticks that it took are those of the part, whatever its end
pub its-ticks : {A : Type 0} (work : ℕ) (ending : QueryEnd) (took : Took) (part : List (Emitted A)) → TakesAt work ending took part → took.ticks ≡ count_ticks part
its-ticks work Stopped took part takes = takes.ticks
its-ticks work NoMore took part takes = takes.ticks
its-ticks work No took part takes = takes.ticks
its-ticks work (Exception ball) took part takes = takes.ticks
its-ticks work StepsSpent took part takes = takes.ticks
its-ticks work WorkSpent took part takes = takes.takes.ticks

-- where less was done, the work wasn't spent
pub never-spent : {A : Type 0} (work : ℕ) (ending : QueryEnd) (took : Took) (part : List (Emitted A)) → took.runs < work → TakesAt work ending took part → ending ≡ WorkSpent → ⊥
never-spent work ending took part left takes spent =
    let it : SpendsWork work took part = subst (λ (e : QueryEnd). TakesAt work e took part) spent takes in
    absurd (omega (arith, it.used, left))

-- with another status the work wasn't spent
no-six : (status : ℕ) (ending : QueryEnd) → status ≡ status_of ending → status ≢ 6 → ending ≡ WorkSpent → ⊥
no-six status ending is left spent = left (is ∙ ap status_of spent)

one-headline : (manner : Manner) (program : ProgramTree) (goal : ExpTree) (log : List LogEntry) (took others : Took) (status other : ℕ) (texts more : List (List ℕ)) → status ≢ 6 → other ≢ 6 →
    Headline manner program goal log took status texts → Headline manner program goal log others other more → AreSame took others status other texts more
one-headline manner program goal log took others status other texts more left right a b =
    let run : a.run ≡ b.run = names-runs-are-one (query_view log) built_stages built-stages-add program goal manner.steps a.run b.run (a.is_part.is_run built_stages (inr refl)) (b.is_part.is_run built_stages (inr refl)) in
    let begins : IsPrefix b.part a.run.events = rw (← run) at b.is_part.begins in
    let ends : Ends manner.answers b.part a.run b.ending = rw (← run) at b.ends in
    let part : a.part ≡ b.part =
    one-part manner.answers a.part b.part a.run a.is_part.begins begins (stands manner.answers a.part a.run a.ending (no-six status a.ending a.its_status left) a.ends)
    (stands manner.answers b.part a.run b.ending (no-six other b.ending b.its_status right) ends) in
    let ending : a.ending ≡ b.ending = ending-is-one manner.answers a.part a.run a.ending b.ending a.ends (subst (λ p. Ends manner.answers p a.run b.ending) (sym part) ends) in
    record {
      same_ticks = its-ticks manner.work a.ending took a.part a.takes ∙ ap count_ticks part ∙ sym (its-ticks manner.work b.ending others b.part b.takes);
      same_status = a.its_status ∙ ap status_of ending ∙ sym b.its_status;
      same_texts = a.written ∙ ap (λ p. print manner.lines p ++ end_lines manner.lines a.ending) part ∙ ap (λ e. print manner.lines b.part ++ end_lines manner.lines e) ending ∙ sym b.written;
    }

pub record AreOneOutcome (queries runs : List QueryRun) (status other : ℕ) (texts more : List (List ℕ)) : Type 0 where
  pub same_queries : map but_for_runs queries ≡ map but_for_runs runs
  pub same_status : status ≡ other
  pub same_texts : texts ≡ more

-- a run without the number of its runs of propagators is told by its Ticks
pub by-ticks : (took others : Took) → took.ticks ≡ others.ticks → but_for_runs (run_of took) ≡ but_for_runs (run_of others)
by-ticks took others same = ap (λ (n : ℕ). run_of (record { ticks = n; runs = 0 })) same

-- where none was run
none-ran : (queries runs : List QueryRun) → queries ≡ [] → runs ≡ [] → map but_for_runs queries ≡ map but_for_runs runs
none-ran queries runs a b = ap (map but_for_runs) (a ∙ sym b)

one-ran : (manner : Manner) (log : List LogEntry) (p q : ProgramTree) (e f : ExpTree) (queries runs : List QueryRun) (status other : ℕ) (texts more : List (List ℕ)) → q ≡ p → f ≡ e → status ≢ 6 → other ≢ 6 →
    HasRan manner p e (lists queries log) status texts → HasRan manner q f (lists runs log) other more → AreOneOutcome queries runs status other texts more
one-ran manner log p q e f queries runs status other texts more program goal left right a b =
    let head : Headline manner p e log b.took other more = rw (program, goal) at b.headline in
    let same = one-headline manner p e log a.took b.took status other texts more left right a.headline head in
    record {
      same_queries = ap (map but_for_runs) a.listed ∙ ap (λ (r : QueryRun). r ∷ []) (by-ticks a.took b.took same.same_ticks) ∙ sym (ap (map but_for_runs) b.listed);
      same_status = same.same_status;
      same_texts = same.same_texts;
    }

pub one-outcome : (o : AreOne) (manner : Manner) (text goal : List ℕ) (texts more : List (List ℕ)) (queries runs : List QueryRun) (log : List LogEntry) (status other : ℕ) →
    ComesText manner text goal (lists queries log) status texts → ComesText manner text goal (lists runs log) other more → status ≢ 6 → other ≢ 6 → AreOneOutcome queries runs status other texts more
one-outcome o manner text goal texts more queries runs log status other (refused line is a) (refused lines are b) left right = record {
  same_queries = none-ran queries runs a.none_ran b.none_ran;
  same_status = a.is_its ∙ sym b.is_its;
  same_texts = a.written ∙ ap (λ (l : List ℕ). l ∷ []) (one-line o text goal line lines is are) ∙ sym b.written;
}
one-outcome o manner text goal texts more queries runs log status other (refused line is a) (ran q f asks b) left right = absurd (not-both o text goal line q f is asks)
one-outcome o manner text goal texts more queries runs log status other (ran p e asks a) (refused line is b) left right = absurd (not-both o text goal line p e is asks)
one-outcome o manner text goal texts more queries runs log status other (ran p e asks a) (ran q f ask b) left right =
    let same : (q ≡ p) × (f ≡ e) = one-asked o text goal q p f e ask.faultless asks.faultless in
    one-ran manner log p q e f queries runs status other texts more same.0 same.1 left right a b

-- ---- one print

pub record AreOnePrint (queries runs : List QueryRun) (status other : ℕ) (texts more : List (List ℕ)) : Type 0 where
  pub same_queries : queries ≡ runs
  pub same_status : status ≡ other
  pub same_texts : texts ≡ more

one-text : (text other : List ℕ) (its another status more : ℕ) (queries runs : List QueryRun) (texts others : List (List ℕ)) → text ≡ other → its ≡ another →
    IsLine text its status queries texts → IsLine other another more runs others → AreOnePrint queries runs status more texts others
one-text text other its another status more queries runs texts others same its_same a b = record {
  same_queries = a.none_ran ∙ sym b.none_ran;
  same_status = a.is_its ∙ its_same ∙ sym b.is_its;
  same_texts = a.written ∙ ap (λ (l : List ℕ). l ∷ []) same ∙ sym b.written;
}

pub one-printed : (o : AreOne) (text : List ℕ) (queries runs : List QueryRun) (status other : ℕ) (texts more : List (List ℕ)) → ComesPrinted text queries status texts → ComesPrinted text runs other more →
    AreOnePrint queries runs status other texts more
one-printed o text queries runs status other texts more (faulty x a is) (faulty y b is') =
    one-text (of_program x) (of_program y) 3 3 status other queries runs texts more (ap of_program (one-program-line o text x y a b)) refl is is'
one-printed o text queries runs status other texts more (faulty x a is) (printed q b is') = absurd (program-no-line o text x q b a)
one-printed o text queries runs status other texts more (printed p a is) (faulty y b is') = absurd (program-no-line o text y p a b)
one-printed o text queries runs status other texts more (printed p a is) (printed q b is') =
    one-text (canonical_text p) (canonical_text q) 0 0 status other queries runs texts more (ap canonical_text (one-program o text p q a b)) refl is is'
