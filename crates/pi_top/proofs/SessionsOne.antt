-- What a session comes to is one: its status, the goals that were run with their Ticks, and the bytes that were written.
use Rattle.std.proofs.Common.{◌≡◌, ◌≤◌, ◌<◌, ℕ, suc, List, [], ◌∷◌, ◌++◌, length, map, take, drop, inr, refl, sym, ap, subst, ◌∙◌, arith, take-append-drop, take-take, length-take-le}
use Rattle.std.proofs.lemmas.List.{append_cancel_left, map-append, same_from_push, take_all}
use Rattle.pi_outside.specs.Ahead.{Ahead}
use Rattle.pi_outside.specs.Finding.{MeetsEnd, PassesLimit}
use Rattle.pi_outside.specs.Inputs.{SourceRead, given_in}
use Rattle.pi_outside.specs.Lines.{lines_of}
use Rattle.pi_outside.specs.Order.{AreItsLines, AreFirstLines}
use Rattle.pi_outside.specs.Requests.{Asked, nothing, another, too_long, a_goal, request_of}
use Rattle.pi_outside.specs.Writes.{SinkWrite, taken_by}
use Rattle.pi_outside.proofs.Input.{ends-with-its-lines, passes-with-first-lines}
use Rattle.pi_outside.proofs.WriteRuns.{taken_by-append}
use Rattle.pi_syntax.specs.ExpTree.{ExpTree}
use Rattle.pi_syntax.specs.ProgramTree.{ProgramTree}
use Rattle.pi_core.specs.declared.log.LogEntry.{LogEntry}
use Rattle.pi_traces.specs.Trace.{Done, Raise, Emitted, count_ticks}
use Rattle.pi_traces.specs.Depth.{Cut, Ended, Spent}
use Rattle.pi_meaning.specs.Shared.View.{query_view}
use Rattle.pi_meaning.specs.OverNames.Telling.{Told}
use Rattle.pi_meaning.specs.OverNames.Stages.{built_stages}
use Rattle.pi_meaning.proofs.OverNames.GrowRules.{built-stages-add, names-runs-are-one}
use Rattle.pi_top.specs.declared.manner.Manner.{Manner}
use Rattle.pi_top.specs.declared.runs.QueryRun.{QueryRun}
use Rattle.pi_top.specs.Asking.{AsksOf, RefusesOf}
use Rattle.pi_top.specs.Faults.{FaultCount, Rises}
use Rattle.pi_top.specs.Handing.{Hands, all_taken, took, HandsAll, none, one_more}
use Rattle.pi_top.specs.Headline.{IsPart}
use Rattle.pi_top.specs.Prefix.{IsPrefix}
use Rattle.pi_top.specs.Printing.{print}
use Rattle.pi_top.specs.QueryEnd.{QueryEnd, Stopped, NoMore, No, Exception, StepsSpent, WorkSpent, EndsWithLast, Ends}
use Rattle.pi_top.specs.Runs.{run_of, HaveWorkLeft, but_for_runs}
use Rattle.pi_top.specs.Took.{Took}
use Rattle.pi_top.specs.Serving.{Present, no_query, query, no_query_line, line_too_long, input_too_long_line, QuerySoFar, QueryEnded, Serves}
use Rattle.pi_top.specs.Session.{ServedSoFar, Served, SessionComes, SessionsAreOne}
use Rattle.pi_top.specs.ToldLines.{end_lines}
use Rattle.pi_top.proofs.AskedOnce.{one-asks, asks-or-not, one-refuses}
use Rattle.pi_top.proofs.EndingLemmas.{ending-is-one}
use Rattle.pi_top.proofs.Judging.{AreOne}
use Rattle.pi_top.proofs.Refusing.{one-last, one-part, last-no-whole, stands, its-ticks, never-spent, by-ticks}
use Rattle.pi_top.proofs.ServedInput.{serves-its-lines}
use Rattle.pi_top.specs.Told.{input_read, lists}

-- ---- the bytes of texts that were handed over

hands-bytes : (text : List ℕ) (writes : List SinkWrite) → Hands text writes → taken_by writes ≡ text
hands-bytes text writes all_taken = refl
hands-bytes text writes (took whole count more some within rest) = ap (λ l. take count text ++ l) (hands-bytes (drop count text) more rest) ∙ take-append-drop count text

flat : List (List ℕ) → List ℕ
flat [] = []
flat (text ∷ texts) = text ++ flat texts

handed-bytes : (texts : List (List ℕ)) (writes : List SinkWrite) → HandsAll texts writes → taken_by writes ≡ flat texts
unfolding flat
handed-bytes texts writes none = refl
handed-bytes texts writes (one_more text rest its more hands all) =
    taken_by-append its more ∙ ap (λ l. l ++ taken_by more) (hands-bytes text its hands) ∙ ap (λ l. text ++ l) (handed-bytes rest more all)

same-handed : (texts others : List (List ℕ)) (first second : List SinkWrite) → texts ≡ others → HandsAll texts first → HandsAll others second → taken_by first ≡ taken_by second
same-handed texts others first second same a b = handed-bytes texts first a ∙ ap flat same ∙ sym (handed-bytes others second b)

same-hands : (text : List ℕ) (first second : List SinkWrite) → Hands text first → Hands text second → taken_by first ≡ taken_by second
same-hands text first second a b = hands-bytes text first a ∙ sym (hands-bytes text second b)

-- ---- the requests of a query

one-run : (program : ProgramTree) (goal : ExpTree) (log : List LogEntry) (steps : ℕ) (run other : Cut Told) (part its : List (Emitted Told)) → IsPart program goal log steps run part → IsPart program goal log steps other its → run ≡ other
one-run program goal log steps run other part its a b =
    names-runs-are-one (query_view log) built_stages built-stages-add program goal steps run other (a.is_run built_stages (inr refl)) (b.is_run built_stages (inr refl))

-- what two turns of one query have in common
record AreSame (taken others : Took) (writes more : List SinkWrite) : Type 0 where
  pub same_ticks : taken.ticks ≡ others.ticks
  pub same_bytes : taken_by writes ≡ taken_by more

so-far-one : (manner : Manner) (program : ProgramTree) (goal : ExpTree) (log : List LogEntry) (requests : ℕ) (taken others : Took) (writes more : List SinkWrite) → QuerySoFar manner program goal log requests taken writes →
    QuerySoFar manner program goal log requests others more → AreSame taken others writes more
so-far-one manner program goal log requests taken others writes more a b =
    let run : a.run ≡ b.run = one-run program goal log manner.steps a.run b.run a.part b.part a.is_part b.is_part in
    let begins : IsPrefix b.part a.run.events = rw (← run) at b.is_part.begins in
    let part : a.part ≡ b.part = one-last requests a.part b.part a.run.events a.is_part.begins begins a.last b.last in
    record {
      same_ticks = a.takes.ticks ∙ ap count_ticks part ∙ sym b.takes.ticks;
      same_bytes = same-handed (print manner.lines a.part) (print manner.lines b.part) writes more (ap (print manner.lines) part) a.written b.written;
    }

ended-one : (manner : Manner) (program : ProgramTree) (goal : ExpTree) (log : List LogEntry) (requests : ℕ) (taken others : Took) (writes more : List SinkWrite) → taken.runs < manner.work → others.runs < manner.work →
    QueryEnded manner program goal log requests taken writes → QueryEnded manner program goal log requests others more → AreSame taken others writes more
ended-one manner program goal log requests taken others writes more left right x y =
    let a = x.headline in
    let b = y.headline in
    let run : a.run ≡ b.run = one-run program goal log manner.steps a.run b.run a.part b.part a.is_part b.is_part in
    let begins : IsPrefix b.part a.run.events = rw (← run) at b.is_part.begins in
    let ends : Ends requests b.part a.run b.ending = rw (← run) at b.ends in
    let part : a.part ≡ b.part =
    one-part requests a.part b.part a.run a.is_part.begins begins (stands requests a.part a.run a.ending (never-spent manner.work a.ending taken a.part left a.takes) a.ends)
    (stands requests b.part a.run b.ending (never-spent manner.work b.ending others b.part right b.takes) ends) in
    let ending : a.ending ≡ b.ending = ending-is-one requests a.part a.run a.ending b.ending a.ends (subst (λ p. Ends requests p a.run b.ending) (sym part) ends) in
    record {
      same_ticks = its-ticks manner.work a.ending taken a.part a.takes ∙ ap count_ticks part ∙ sym (its-ticks manner.work b.ending others b.part b.takes);
      same_bytes = same-handed x.texts y.texts writes more
          (a.written ∙ ap (λ p. print manner.lines p ++ end_lines manner.lines a.ending) part ∙ ap (λ e. print manner.lines b.part ++ end_lines manner.lines e) ending ∙ sym b.written) x.written y.written;
    }

no-end-yet : {X : Type 0} (answers requests : ℕ) (part other : List (Emitted Told)) (run : Cut Told) (ending : QueryEnd) → requests < answers → IsPrefix part run.events → EndsWithLast requests part →
    (ending ≡ Stopped → requests ≡ answers) → (ending ≡ WorkSpent → ⊥) → Ends requests other run ending → X
no-end-yet answers requests part other run Stopped fewer begins last limit left is = let all : requests ≡ answers = limit refl in absurd (omega (arith, all, fewer))
no-end-yet answers requests part other run NoMore fewer begins last limit left is = last-no-whole requests part other run (Ended Done) begins last is.0
no-end-yet answers requests part other run No fewer begins last limit left is = last-no-whole requests part other run (Ended Done) begins last is.0
no-end-yet answers requests part other run (Exception ball) fewer begins last limit left is = last-no-whole requests part other run (Ended (Raise ball)) begins last is
no-end-yet answers requests part other run StepsSpent fewer begins last limit left is = last-no-whole requests part other run Spent begins last is
no-end-yet answers requests part other run WorkSpent fewer begins last limit left is = absurd (left refl)

-- a query that goes on hasn't ended
so-far-no-end : {X : Type 0} (manner : Manner) (program : ProgramTree) (goal : ExpTree) (log : List LogEntry) (requests : ℕ) (taken others : Took) (writes more : List SinkWrite) → others.runs < manner.work →
    QuerySoFar manner program goal log requests taken writes → QueryEnded manner program goal log requests others more → X
so-far-no-end manner program goal log requests taken others writes more left a y =
    let b = y.headline in
    let run : a.run ≡ b.run = one-run program goal log manner.steps a.run b.run a.part b.part a.is_part b.is_part in
    no-end-yet manner.answers requests a.part b.part a.run b.ending a.fewer a.is_part.begins a.last y.at_limit (never-spent manner.work b.ending others b.part left b.takes) (rw (← run) at b.ends)

-- ---- the goals that were run

-- the same goals were run, with the same Ticks
SameRuns : List QueryRun → List QueryRun → Type 0
SameRuns runs more = map but_for_runs runs ≡ map but_for_runs more

same-runs : (runs more : List QueryRun) → runs ≡ more → SameRuns runs more
unfolding SameRuns
same-runs runs more same = ap (map but_for_runs) same

same-pushed : (runs more : List QueryRun) (taken others : Took) → SameRuns runs more → taken.ticks ≡ others.ticks → SameRuns (runs ++ run_of taken ∷ []) (more ++ run_of others ∷ [])
unfolding SameRuns
same-pushed runs more taken others front same =
    map-append but_for_runs runs (run_of taken ∷ []) ∙ ap (λ (l : List QueryRun). l ++ but_for_runs (run_of taken) ∷ []) front
    ∙ ap (λ (x : QueryRun). map but_for_runs more ++ x ∷ []) (by-ticks taken others same) ∙ sym (map-append but_for_runs more (run_of others ∷ []))

same-front : (runs more : List QueryRun) (taken others : Took) → SameRuns (runs ++ run_of taken ∷ []) (more ++ run_of others ∷ []) → SameRuns runs more
unfolding SameRuns
same-front runs more taken others same =
    (same_from_push (map but_for_runs runs) (map but_for_runs more) (but_for_runs (run_of taken)) (but_for_runs (run_of others))
    (sym (map-append but_for_runs runs (run_of taken ∷ [])) ∙ same ∙ map-append but_for_runs more (run_of others ∷ []))).0

-- no run's work reached what it may do; of the present query, which may go on, that isn't said
LeftAt : ℕ → Present → List QueryRun → Type 0
LeftAt work no_query runs = HaveWorkLeft work runs
LeftAt work (query goal requests writes) runs = (earlier : List QueryRun) (last : Took) → runs ≡ earlier ++ run_of last ∷ [] → HaveWorkLeft work earlier

left-front : (work : ℕ) (runs : List QueryRun) (run : QueryRun) → HaveWorkLeft work (runs ++ run ∷ []) → HaveWorkLeft work runs
left-front work [] run left = tt
left-front work (first ∷ runs) run left = (left.0, left-front work runs run left.1)

left-last : (work : ℕ) (runs : List QueryRun) (taken : Took) → HaveWorkLeft work (runs ++ run_of taken ∷ []) → taken.runs < work
left-last work [] taken left = let here = left.0 in omega (arith, here)
left-last work (first ∷ runs) taken left = left-last work runs taken left.1

left-any : (work : ℕ) (present : Present) (runs : List QueryRun) → HaveWorkLeft work runs → LeftAt work present runs
unfolding LeftAt
left-any work no_query runs left = left
left-any work (query goal requests writes) runs left = λ earlier last is. left-front work earlier (run_of last) (subst (HaveWorkLeft work) is left)

left-more : (work : ℕ) (goal : ExpTree) (requests : ℕ) (writes : List SinkWrite) (runs : List QueryRun) (before : Took) → HaveWorkLeft work runs → LeftAt work (query goal requests writes) (runs ++ run_of before ∷ [])
unfolding LeftAt
left-more work goal requests writes runs before left = λ earlier last is. subst (HaveWorkLeft work) ((same_from_push runs earlier (run_of before) (run_of last) is).0) left

-- so it was before a line
left-before : (work : ℕ) (manner : Manner) (program : ProgramTree) (log : List LogEntry) (present : Present) (asked : Asked) (next : Present) (old new : List QueryRun) (writes : List SinkWrite) →
    Serves manner program log present asked next old new writes → LeftAt work next new → LeftAt work present old
unfolding LeftAt
left-before work manner program log present asked next old new writes (Serves.passed_over its runs) left = left
left-before work manner program log present asked next old new writes (Serves.has_no_query runs its hands) left = left
left-before work manner program log present asked next old new writes (Serves.is_too_long before runs its hands) left = left-any work before runs left
left-before work manner program log present asked next old new writes (Serves.refused before text line runs its is hands) left = left-any work before runs left
left-before work manner program log present asked next old new writes (Serves.answered before text goal taken runs its asks so_far) left = left-any work before runs (left runs taken refl)
left-before work manner program log present asked next old new writes (Serves.ended before text goal taken runs its asks end) left = left-any work before runs (left-front work runs (run_of taken) left)
left-before work manner program log present asked next old new writes (Serves.answered_more goal requests before taken earlier runs its so_far) left = left-more work goal requests earlier runs before (left runs taken refl)
left-before work manner program log present asked next old new writes (Serves.ended_later goal requests before taken earlier runs its end) left = left-more work goal requests earlier runs before (left-front work runs (run_of taken) left)

-- at a query that ended
left-ended : (work : ℕ) (next : Present) (new runs : List QueryRun) (taken : Took) → next ≡ no_query → new ≡ runs ++ run_of taken ∷ [] → LeftAt work next new → taken.runs < work
unfolding LeftAt
left-ended work next new runs taken ended is left = left-last work runs taken (rw (ended, is) at left)

-- ---- a line

-- two present queries that were asked and answered alike
SamePresent : Present → Present → Type 0
SamePresent no_query no_query = Unit {0}
SamePresent no_query (query goal requests writes) = ⊥
SamePresent (query goal requests writes) no_query = ⊥
SamePresent (query goal requests writes) (query other its more) = (goal ≡ other) × (requests ≡ its) × (taken_by writes ≡ taken_by more)

record SameServed (present other : Present) (runs more : List QueryRun) (writes others : List SinkWrite) : Type 0 where
  pub presents : SamePresent present other
  pub runs_are : SameRuns runs more
  pub bytes : taken_by writes ≡ taken_by others

-- what a request for the next answer comes to
data ServedMore (manner : Manner) (program : ProgramTree) (log : List LogEntry) (present next : Present) (old new : List QueryRun) (writes : List SinkWrite) : Type 0 where
  nothing_there : present ≡ no_query → next ≡ no_query → new ≡ old → Hands no_query_line writes → ServedMore manner program log present next old new writes
  goes_on : (goal : ExpTree) (requests : ℕ) (before taken : Took) (earlier : List SinkWrite) (runs : List QueryRun) → present ≡ query goal requests earlier → next ≡ query goal (suc requests) (earlier ++ writes) → old ≡ runs ++ run_of before ∷ [] →
      new ≡ runs ++ run_of taken ∷ [] → QuerySoFar manner program goal log (suc requests) taken (earlier ++ writes) → ServedMore manner program log present next old new writes
  ends : (goal : ExpTree) (requests : ℕ) (before taken : Took) (earlier : List SinkWrite) (runs : List QueryRun) → present ≡ query goal requests earlier → next ≡ no_query → old ≡ runs ++ run_of before ∷ [] →
      new ≡ runs ++ run_of taken ∷ [] → QueryEnded manner program goal log (suc requests) taken (earlier ++ writes) → ServedMore manner program log present next old new writes

-- what a goal comes to
data ServedGoal (manner : Manner) (program : ProgramTree) (log : List LogEntry) (text : List ℕ) (next : Present) (old new : List QueryRun) (writes : List SinkWrite) : Type 0 where
  is_refused : (line : List ℕ) → RefusesOf program text line → next ≡ no_query → new ≡ old → Hands line writes → ServedGoal manner program log text next old new writes
  goes_on : (goal : ExpTree) (taken : Took) → AsksOf program text goal → next ≡ query goal 1 writes → new ≡ old ++ run_of taken ∷ [] → QuerySoFar manner program goal log 1 taken writes →
      ServedGoal manner program log text next old new writes
  ends : (goal : ExpTree) (taken : Took) → AsksOf program text goal → next ≡ no_query → new ≡ old ++ run_of taken ∷ [] → QueryEnded manner program goal log 1 taken writes →
      ServedGoal manner program log text next old new writes

ServedBy : Manner → ProgramTree → List LogEntry → Present → Asked → Present → List QueryRun → List QueryRun → List SinkWrite → Type 0
ServedBy manner program log present nothing next old new writes = (next ≡ present) × (new ≡ old) × (writes ≡ [])
ServedBy manner program log present another next old new writes = ServedMore manner program log present next old new writes
ServedBy manner program log present too_long next old new writes = (next ≡ no_query) × (new ≡ old) × Hands line_too_long writes
ServedBy manner program log present (a_goal text) next old new writes = ServedGoal manner program log text next old new writes

served-by : (manner : Manner) (program : ProgramTree) (log : List LogEntry) (present : Present) (asked : Asked) (next : Present) (old new : List QueryRun) (writes : List SinkWrite) →
    Serves manner program log present asked next old new writes → ServedBy manner program log present asked next old new writes
unfolding ServedBy
served-by manner program log present asked next old new writes (Serves.passed_over its runs) = (refl, refl, refl)
served-by manner program log present asked next old new writes (Serves.has_no_query runs its hands) = ServedMore.nothing_there refl refl refl hands
served-by manner program log present asked next old new writes (Serves.is_too_long before runs its hands) = (refl, refl, hands)
served-by manner program log present asked next old new writes (Serves.refused before text line runs its is hands) = ServedGoal.is_refused line is refl refl hands
served-by manner program log present asked next old new writes (Serves.answered before text goal ticks runs its asks so_far) = ServedGoal.goes_on goal ticks asks refl refl so_far
served-by manner program log present asked next old new writes (Serves.ended before text goal ticks runs its asks end) = ServedGoal.ends goal ticks asks refl refl end
served-by manner program log present asked next old new writes (Serves.answered_more goal requests before ticks earlier runs its so_far) = ServedMore.goes_on goal requests before ticks earlier runs refl refl refl refl so_far
served-by manner program log present asked next old new writes (Serves.ended_later goal requests before ticks earlier runs its end) = ServedMore.ends goal requests before ticks earlier runs refl refl refl refl end

none-some : {X : Type 0} (present other : Present) (goal : ExpTree) (requests : ℕ) (writes : List SinkWrite) → SamePresent present other → present ≡ no_query → other ≡ query goal requests writes → X
unfolding SamePresent
none-some present other goal requests writes same a b = absurd (rw (a, b) at same)

some-none : {X : Type 0} (present other : Present) (goal : ExpTree) (requests : ℕ) (writes : List SinkWrite) → SamePresent present other → present ≡ query goal requests writes → other ≡ no_query → X
unfolding SamePresent
some-none present other goal requests writes same a b = absurd (rw (a, b) at same)

same-none : (present other : Present) → present ≡ no_query → other ≡ no_query → SamePresent present other
unfolding SamePresent
same-none present other a b = rw (a, b) tt

same-some : (present other : Present) (goal its : ExpTree) (requests their : ℕ) (writes more : List SinkWrite) → present ≡ query goal requests writes → other ≡ query its their more → goal ≡ its → requests ≡ their →
    taken_by writes ≡ taken_by more → SamePresent present other
unfolding SamePresent
same-some present other goal its requests their writes more a b goals counts bytes = rw (a, b) (goals, counts, bytes)

both-some : (present other : Present) (goal its : ExpTree) (requests their : ℕ) (writes more : List SinkWrite) → SamePresent present other → present ≡ query goal requests writes → other ≡ query its their more →
    (goal ≡ its) × (requests ≡ their) × (taken_by writes ≡ taken_by more)
unfolding SamePresent
both-some present other goal its requests their writes more same a b = rw (a, b) at same

-- behind the same bytes
behind-same : (earlier writes before more : List SinkWrite) → taken_by earlier ≡ taken_by before → taken_by (earlier ++ writes) ≡ taken_by (before ++ more) → taken_by writes ≡ taken_by more
behind-same earlier writes before more front all =
    append_cancel_left (taken_by earlier) (taken_by writes) (taken_by more)
    (sym (taken_by-append earlier writes) ∙ all ∙ taken_by-append before more ∙ ap (λ l. l ++ taken_by more) (sym front))

runs-one : (old was new more runs others : List QueryRun) (before its taken their : Took) → SameRuns old was → old ≡ runs ++ run_of before ∷ [] → was ≡ others ++ run_of its ∷ [] → new ≡ runs ++ run_of taken ∷ [] → more ≡ others ++ run_of their ∷ [] →
    taken.ticks ≡ their.ticks → SameRuns new more
runs-one old was new more runs others before its taken their listed a b c d same =
    let front : SameRuns runs others = same-front runs others before its (rw (a, b) at listed) in
    rw (c, d) (same-pushed runs others taken their front same)

more-one : (manner : Manner) (program : ProgramTree) (log : List LogEntry) (present other next after : Present) (old was new more : List QueryRun) (writes others : List SinkWrite) → SamePresent present other → SameRuns old was → LeftAt manner.work next new → LeftAt manner.work after more →
    ServedMore manner program log present next old new writes → ServedMore manner program log other after was more others → SameServed next after new more writes others
more-one manner program log present other next after old was new more writes others same listed left right (ServedMore.nothing_there a b c d) (ServedMore.nothing_there e f g h) =
    record { presents = same-none next after b f; runs_are = rw (c, g) listed; bytes = same-hands no_query_line writes others d h }
more-one manner program log present other next after old was new more writes others same listed left right (ServedMore.nothing_there a b c d) (ServedMore.goes_on goal requests before taken earlier runs e f g h so_far) =
    none-some present other goal requests earlier same a e
more-one manner program log present other next after old was new more writes others same listed left right (ServedMore.nothing_there a b c d) (ServedMore.ends goal requests before taken earlier runs e f g h end) =
    none-some present other goal requests earlier same a e
more-one manner program log present other next after old was new more writes others same listed left right (ServedMore.goes_on goal requests before taken earlier runs a b c d so_far) (ServedMore.nothing_there e f g h) =
    some-none present other goal requests earlier same a e
more-one manner program log present other next after old was new more writes others same listed left right (ServedMore.ends goal requests before taken earlier runs a b c d end) (ServedMore.nothing_there e f g h) =
    some-none present other goal requests earlier same a e
more-one manner program log present other next after old was new more writes others same listed left right (ServedMore.goes_on goal requests before taken earlier runs a b c d so_far)
    (ServedMore.goes_on goal' requests' before' taken' earlier' runs' e f g h so_far') =
    let is = both-some present other goal goal' requests requests' earlier earlier' same a e in
    let its : QuerySoFar manner program goal log (suc requests) taken' (earlier' ++ others) = rw (← is.0, ← is.1) at so_far' in
    let turn = so-far-one manner program goal log (suc requests) taken taken' (earlier ++ writes) (earlier' ++ others) so_far its in
    record {
      presents = same-some next after goal goal' (suc requests) (suc requests') (earlier ++ writes) (earlier' ++ others) b f is.0 (ap suc is.1) turn.same_bytes;
      runs_are = runs-one old was new more runs runs' before before' taken taken' listed c g d h turn.same_ticks;
      bytes = behind-same earlier writes earlier' others is.2 turn.same_bytes;
    }
more-one manner program log present other next after old was new more writes others same listed left right (ServedMore.goes_on goal requests before taken earlier runs a b c d so_far)
    (ServedMore.ends goal' requests' before' taken' earlier' runs' e f g h end) =
    let is = both-some present other goal goal' requests requests' earlier earlier' same a e in
    so-far-no-end manner program goal log (suc requests) taken taken' (earlier ++ writes) (earlier' ++ others) (left-ended manner.work after more runs' taken' f h right) so_far (rw (← is.0, ← is.1) at end)
more-one manner program log present other next after old was new more writes others same listed left right (ServedMore.ends goal requests before taken earlier runs a b c d end)
    (ServedMore.goes_on goal' requests' before' taken' earlier' runs' e f g h so_far) =
    let is = both-some present other goal goal' requests requests' earlier earlier' same a e in
    so-far-no-end manner program goal log (suc requests) taken' taken (earlier' ++ others) (earlier ++ writes) (left-ended manner.work next new runs taken b d left) (rw (← is.0, ← is.1) at so_far) end
more-one manner program log present other next after old was new more writes others same listed left right (ServedMore.ends goal requests before taken earlier runs a b c d end)
    (ServedMore.ends goal' requests' before' taken' earlier' runs' e f g h end') =
    let is = both-some present other goal goal' requests requests' earlier earlier' same a e in
    let its : QueryEnded manner program goal log (suc requests) taken' (earlier' ++ others) = rw (← is.0, ← is.1) at end' in
    let turn = ended-one manner program goal log (suc requests) taken taken' (earlier ++ writes) (earlier' ++ others) (left-ended manner.work next new runs taken b d left) (left-ended manner.work after more runs' taken' f h right) end its in
    record {
      presents = same-none next after b f;
      runs_are = runs-one old was new more runs runs' before before' taken taken' listed c g d h turn.same_ticks;
      bytes = behind-same earlier writes earlier' others is.2 turn.same_bytes;
    }

goal-one : (o : AreOne) (manner : Manner) (program : ProgramTree) (log : List LogEntry) (text : List ℕ) (next after : Present) (old was new more : List QueryRun) (writes others : List SinkWrite) → SameRuns old was → LeftAt manner.work next new → LeftAt manner.work after more →
    ServedGoal manner program log text next old new writes → ServedGoal manner program log text after was more others → SameServed next after new more writes others
goal-one o manner program log text next after old was new more writes others listed left right (ServedGoal.is_refused line is a b hands) (ServedGoal.is_refused line' is' c d hands') =
    record { presents = same-none next after a c; runs_are = rw (b, d) listed; bytes = same-hands line writes others hands (rw (← one-refuses o program text line line' is is') at hands') }
goal-one o manner program log text next after old was new more writes others listed left right (ServedGoal.is_refused line is a b hands) (ServedGoal.goes_on goal taken asks c d so_far) = absurd (asks-or-not o program text line goal asks is)
goal-one o manner program log text next after old was new more writes others listed left right (ServedGoal.is_refused line is a b hands) (ServedGoal.ends goal taken asks c d end) = absurd (asks-or-not o program text line goal asks is)
goal-one o manner program log text next after old was new more writes others listed left right (ServedGoal.goes_on goal taken asks a b so_far) (ServedGoal.is_refused line is c d hands) = absurd (asks-or-not o program text line goal asks is)
goal-one o manner program log text next after old was new more writes others listed left right (ServedGoal.ends goal taken asks a b end) (ServedGoal.is_refused line is c d hands) = absurd (asks-or-not o program text line goal asks is)
goal-one o manner program log text next after old was new more writes others listed left right (ServedGoal.goes_on goal taken asks a b so_far) (ServedGoal.goes_on goal' taken' asks' c d so_far') =
    let same : goal ≡ goal' = one-asks o program text goal goal' asks asks' in
    let turn = so-far-one manner program goal log 1 taken taken' writes others so_far (rw (← same) at so_far') in
    record {
      presents = same-some next after goal goal' 1 1 writes others a c same refl turn.same_bytes;
      runs_are = rw (b, d) (same-pushed old was taken taken' listed turn.same_ticks);
      bytes = turn.same_bytes;
    }
goal-one o manner program log text next after old was new more writes others listed left right (ServedGoal.goes_on goal taken asks a b so_far) (ServedGoal.ends goal' taken' asks' c d end) =
    let same : goal ≡ goal' = one-asks o program text goal goal' asks asks' in
    so-far-no-end manner program goal log 1 taken taken' writes others (left-ended manner.work after more was taken' c d right) so_far (rw (← same) at end)
goal-one o manner program log text next after old was new more writes others listed left right (ServedGoal.ends goal taken asks a b end) (ServedGoal.goes_on goal' taken' asks' c d so_far) =
    let same : goal ≡ goal' = one-asks o program text goal goal' asks asks' in
    so-far-no-end manner program goal log 1 taken' taken others writes (left-ended manner.work next new old taken a b left) (rw (← same) at so_far) end
goal-one o manner program log text next after old was new more writes others listed left right (ServedGoal.ends goal taken asks a b end) (ServedGoal.ends goal' taken' asks' c d end') =
    let same : goal ≡ goal' = one-asks o program text goal goal' asks asks' in
    let turn = ended-one manner program goal log 1 taken taken' writes others (left-ended manner.work next new old taken a b left) (left-ended manner.work after more was taken' c d right) end (rw (← same) at end') in
    record {
      presents = same-none next after a c;
      runs_are = rw (b, d) (same-pushed old was taken taken' listed turn.same_ticks);
      bytes = turn.same_bytes;
    }

by-one : (o : AreOne) (manner : Manner) (program : ProgramTree) (log : List LogEntry) (asked : Asked) (present other next after : Present) (old was new more : List QueryRun) (writes others : List SinkWrite) → SamePresent present other →
    SameRuns old was → LeftAt manner.work next new → LeftAt manner.work after more → ServedBy manner program log present asked next old new writes → ServedBy manner program log other asked after was more others → SameServed next after new more writes others
unfolding ServedBy
by-one o manner program log nothing present other next after old was new more writes others same listed left right a b =
    record { presents = rw (a.0, b.0) same; runs_are = rw (a.1, b.1) listed; bytes = ap taken_by (a.2 ∙ sym b.2) }
by-one o manner program log another present other next after old was new more writes others same listed left right a b = more-one manner program log present other next after old was new more writes others same listed left right a b
by-one o manner program log too_long present other next after old was new more writes others same listed left right a b =
    record { presents = same-none next after a.0 b.0; runs_are = rw (a.1, b.1) listed; bytes = same-hands line_too_long writes others a.2 b.2 }
by-one o manner program log (a_goal text) present other next after old was new more writes others same listed left right a b = goal-one o manner program log text next after old was new more writes others listed left right a b

line-one : (o : AreOne) (manner : Manner) (program : ProgramTree) (log : List LogEntry) (asked its : Asked) (present other next after : Present) (old runs new more : List QueryRun) (writes others : List SinkWrite) → SamePresent present other →
    asked ≡ its → SameRuns old runs → LeftAt manner.work next new → LeftAt manner.work after more → Serves manner program log present asked next old new writes → Serves manner program log other its after runs more others →
    SameServed next after new more writes others
line-one o manner program log asked its present other next after old runs new more writes others same asks listed left right a b =
    by-one o manner program log asked present other next after old runs new more writes others same listed left right (served-by manner program log present asked next old new writes a)
    (served-by manner program log other asked after runs more others (rw (← asks) at b))

-- ---- all lines that were found

no-push : (lines : List (List ℕ)) (line : List ℕ) → [] ≡ lines ++ line ∷ [] → ⊥
no-push [] line e = cc
no-push (first ∷ lines) line e = cc

so-far-of-lines : (o : AreOne) (manner : Manner) (program : ProgramTree) (log : List LogEntry) (most : ℕ) (lines others : List (List ℕ)) (present other : Present) (runs more : List QueryRun) (ahead at : Ahead) (reads its : List SourceRead) (writes their : List SinkWrite) →
    lines ≡ others → LeftAt manner.work present runs → LeftAt manner.work other more → ServedSoFar manner program log most lines present runs ahead reads writes → ServedSoFar manner program log most others other more at its their → SameServed present other runs more writes their
so-far-of-lines o manner program log most lines others present other runs more ahead at reads its writes their same left right ServedSoFar.at_first ServedSoFar.at_first =
    record { presents = same-none no_query no_query refl refl; runs_are = same-runs [] [] refl; bytes = refl }
so-far-of-lines o manner program log most lines others present other runs more ahead at reads its writes their same left right ServedSoFar.at_first
    (ServedSoFar.one_more earlier before next old new here after first second third fourth line so_far finds serves) = absurd (no-push earlier line same)
so-far-of-lines o manner program log most lines others present other runs more ahead at reads its writes their same left right
    (ServedSoFar.one_more earlier before next old new here after first second third fourth line so_far finds serves) ServedSoFar.at_first = absurd (no-push earlier line (sym same))
so-far-of-lines o manner program log most lines others present other runs more ahead at reads its writes their same left right
    (ServedSoFar.one_more earlier before next old new here after first second third fourth line so_far finds serves)
    (ServedSoFar.one_more earlier' before' next' old' new' here' after' first' second' third' fourth' line' so_far' finds' serves') =
    let split : (earlier ≡ earlier') × (line ≡ line') = same_from_push earlier earlier' line line' same in
    let front = so-far-of-lines o manner program log most earlier earlier' before before' old old' here here' first first' third third' split.0
    (left-before manner.work manner program log before (request_of line) next old new fourth serves left) (left-before manner.work manner program log before' (request_of line') next' old' new' fourth' serves' right) so_far so_far' in
    let turn = line-one o manner program log (request_of line) (request_of line') before before' next next' old old' new new' fourth fourth' front.presents (ap request_of split.1) front.runs_are left right serves serves' in
    record {
      presents = turn.presents;
      runs_are = turn.runs_are;
      bytes = taken_by-append third fourth ∙ ap (λ l. l ++ taken_by fourth) front.bytes ∙ ap (λ l. taken_by third' ++ l) turn.bytes ∙ sym (taken_by-append third' fourth');
    }

-- ---- the whole

-- what two ends of a session have in common
record AreOneEnd (status its : ℕ) (queries runs : List QueryRun) (writes others : List SinkWrite) : Type 0 where
  pub same_status : status ≡ its
  pub same_queries : SameRuns queries runs
  pub same_bytes : taken_by writes ≡ taken_by others

within-given : (most : ℕ) (text other : List ℕ) → length text ≤ most → length other ≤ most → take (suc most) text ≡ take (suc most) other → text ≡ other
within-given most text other a b same = sym (take_all (suc most) text (omega (arith, a))) ∙ same ∙ take_all (suc most) other (omega (arith, b))

past-given : (most : ℕ) (text other : List ℕ) → take (suc most) text ≡ take (suc most) other → take most text ≡ take most other
past-given most text other same =
    let less : most ≤ suc most = omega arith in
    sym (take-take most (suc most) text less) ∙ ap (take most) same ∙ take-take most (suc most) other less

no-more-given : {X : Type 0} (most : ℕ) (text other : List ℕ) → length text ≤ most → most < length other → take (suc most) text ≡ take (suc most) other → X
no-more-given most text other within more same =
    let whole : length (take (suc most) text) ≡ length text = ap length (take_all (suc most) text (omega (arith, within))) in
    let cut : length (take (suc most) other) ≡ suc most = length-take-le (suc most) other (omega (arith, more)) in
    let equal : length (take (suc most) text) ≡ length (take (suc most) other) = ap length same in
    absurd (omega (arith, whole, cut, equal, within))

-- what stands behind what was served before
all-bytes : (writes earlier its others before their : List SinkWrite) → writes ≡ earlier ++ its → others ≡ before ++ their → taken_by earlier ≡ taken_by before → taken_by its ≡ taken_by their → taken_by writes ≡ taken_by others
all-bytes writes earlier its others before their a b front last =
    ap taken_by a ∙ taken_by-append earlier its ∙ ap (λ l. l ++ taken_by its) front ∙ ap (λ l. taken_by before ++ l) last ∙ sym (taken_by-append before their) ∙ sym (ap taken_by b)

its-lines : (manner : Manner) (program : ProgramTree) (log : List LogEntry) (most : ℕ) (reads its : List SourceRead) (writes its_writes : List SinkWrite) (served : Served manner program log most reads its writes its_writes) (line : List ℕ) →
    MeetsEnd served.ahead its line → AreItsLines most (given_in reads) served.lines line
its-lines manner program log most reads its writes its_writes served line meets =
    subst (λ (r : List SourceRead). AreItsLines most (given_in r) served.lines line) (sym served.reads_are)
    (ends-with-its-lines most served.lines line served.earlier its served.ahead
    (serves-its-lines manner program log most served.lines served.present served.runs served.ahead served.earlier served.earlier_writes served.so_far) meets)

first-lines : (manner : Manner) (program : ProgramTree) (log : List LogEntry) (most : ℕ) (reads its : List SourceRead) (writes its_writes : List SinkWrite) (served : Served manner program log most reads its writes its_writes) →
    PassesLimit served.ahead its → AreFirstLines most (given_in reads) served.lines
first-lines manner program log most reads its writes its_writes served passes =
    subst (λ (r : List SourceRead). AreFirstLines most (given_in r) served.lines) (sym served.reads_are)
    (passes-with-first-lines most served.lines served.earlier its served.ahead
    (serves-its-lines manner program log most served.lines served.present served.runs served.ahead served.earlier served.earlier_writes served.so_far) passes)

end-one : (o : AreOne) (manner : Manner) (program : ProgramTree) (log : List LogEntry) (most : ℕ) (input other : FaultCount) (queries runs : List QueryRun) (status its : ℕ) (reads more : List SourceRead) (writes others : List SinkWrite) →
    (Rises input → ⊥) → (Rises other → ⊥) → HaveWorkLeft manner.work queries → HaveWorkLeft manner.work runs → take (suc most) (given_in reads) ≡ take (suc most) (given_in more) → SessionComes manner program (input_read most input reads) (lists queries log) status writes →
    SessionComes manner program (input_read most other more) (lists runs log) its others → AreOneEnd status its queries runs writes others
end-one o manner program log most input other queries runs status its reads more writes others stands stood left right same
    (SessionComes.to_its_end a b first first_writes served line next meets serves) (SessionComes.to_its_end c d second second_writes served' line' next' meets' serves') =
    let x = its-lines manner program log most reads first writes first_writes served line meets in
    let y = its-lines manner program log most more second others second_writes served' line' meets' in
    let text : given_in reads ≡ given_in more = within-given most (given_in reads) (given_in more) x.within y.within same in
    let split : (served.lines ≡ served'.lines) × (line ≡ line') = same_from_push served.lines served'.lines line line' (sym x.are ∙ ap lines_of text ∙ y.are) in
    let front = so-far-of-lines o manner program log most served.lines served'.lines served.present served'.present served.runs served'.runs served.ahead served'.ahead served.earlier served'.earlier served.earlier_writes served'.earlier_writes
    split.0 (left-before manner.work manner program log served.present (request_of line) next served.runs queries first_writes serves (left-any manner.work next queries left))
    (left-before manner.work manner program log served'.present (request_of line') next' served'.runs runs second_writes serves' (left-any manner.work next' runs right)) served.so_far served'.so_far in
    let turn = line-one o manner program log (request_of line) (request_of line') served.present served'.present next next' served.runs served'.runs queries runs first_writes second_writes front.presents (ap request_of split.1) front.runs_are (left-any manner.work next queries left) (left-any manner.work next' runs right) serves serves' in
    record {
      same_status = a ∙ sym c;
      same_queries = turn.runs_are;
      same_bytes = all-bytes writes served.earlier_writes first_writes others served'.earlier_writes second_writes served.writes_are served'.writes_are front.bytes turn.bytes;
    }
end-one o manner program log most input other queries runs status its reads more writes others stands stood left right same
    (SessionComes.to_its_end a b first first_writes served line next meets serves) (SessionComes.past_limit c d second second_writes served' passes e f) =
    let x = its-lines manner program log most reads first writes first_writes served line meets in
    let y = first-lines manner program log most more second others second_writes served' passes in
    no-more-given most (given_in reads) (given_in more) x.within y.more same
end-one o manner program log most input other queries runs status its reads more writes others stands stood left right same
    (SessionComes.past_limit a b first first_writes served passes c d) (SessionComes.to_its_end e f second second_writes served' line next meets serves) =
    let x = first-lines manner program log most reads first writes first_writes served passes in
    let y = its-lines manner program log most more second others second_writes served' line meets in
    no-more-given most (given_in more) (given_in reads) y.within x.more (sym same)
end-one o manner program log most input other queries runs status its reads more writes others stands stood left right same
    (SessionComes.past_limit a b first first_writes served passes c d) (SessionComes.past_limit e f second second_writes served' passes' g h) =
    let x = first-lines manner program log most reads first writes first_writes served passes in
    let y = first-lines manner program log most more second others second_writes served' passes' in
    let split = same_from_push served.lines served'.lines x.rest y.rest (sym x.are ∙ ap lines_of (past-given most (given_in reads) (given_in more) same) ∙ y.are) in
    let front = so-far-of-lines o manner program log most served.lines served'.lines served.present served'.present served.runs served'.runs served.ahead served'.ahead served.earlier served'.earlier served.earlier_writes served'.earlier_writes
    split.0 (left-any manner.work served.present served.runs (subst (HaveWorkLeft manner.work) c left)) (left-any manner.work served'.present served'.runs (subst (HaveWorkLeft manner.work) g right)) served.so_far served'.so_far in
    record {
      same_status = a ∙ sym e;
      same_queries = rw (c, g) front.runs_are;
      same_bytes = all-bytes writes served.earlier_writes first_writes others served'.earlier_writes second_writes served.writes_are served'.writes_are front.bytes
          (same-handed (input_too_long_line ∷ []) (input_too_long_line ∷ []) first_writes second_writes refl d h);
    }
end-one o manner program log most input other queries runs status its reads more writes others stands stood left right same (SessionComes.read_fault a rises first first_writes served fails c d) b = absurd (stands rises)
end-one o manner program log most input other queries runs status its reads more writes others stands stood left right same (SessionComes.to_its_end a b first first_writes served line next meets serves)
    (SessionComes.read_fault e rises second second_writes served' fails g h) = absurd (stood rises)
end-one o manner program log most input other queries runs status its reads more writes others stands stood left right same (SessionComes.past_limit a b first first_writes served passes c d)
    (SessionComes.read_fault e rises second second_writes served' fails g h) = absurd (stood rises)

pub sessions-are-one : AreOne → SessionsAreOne
unfolding SameRuns
sessions-are-one o manner program log most input other queries runs status its reads more writes others stands stood left right same a b =
    let is = end-one o manner program log most input other queries runs status its reads more writes others stands stood left right same a b in
    (is.same_status, is.same_queries, is.same_bytes)
