-- What a query of the core language comes to is what its goal comes to over names.
use Rattle.std.proofs.Common.{◌≡◌, ℕ, suc, ◌+◌, List, [], ◌∷◌, ◌++◌, map, refl, sym, ap, subst, ◌∙◌, arith}
use Rattle.std.proofs.lemmas.List.{map-append}
use Rattle.pi_outside.specs.Writes.{SinkWrite}
use Rattle.pi_core.specs.CoreTree.{PredTree, QueryTree}
use Rattle.pi_core.specs.declared.core_program.NameSlot.{NameSlot}
use Rattle.pi_syntax.specs.ExpTree.{ExpTree}
use Rattle.pi_syntax.specs.ProgramTree.{ProgramTree}
use Rattle.pi_traces.specs.Trace.{Done, Raise, Tick, Load, Out, Emitted, noted, answered, count_ticks}
use Rattle.pi_traces.specs.Depth.{Cut, Stop as CutStop, Ended, Spent}
use Rattle.pi_meaning.specs.Shared.View.{query_view}
use Rattle.pi_meaning.specs.CoreMeaning.Run.{Solution}
use Rattle.pi_meaning.specs.Shared.Told.{answer_of, solution_told}
use Rattle.pi_meaning.specs.OverNames.Telling.{Told, told_event, told_cut}
use Rattle.pi_print_terms.specs.PrintAnswer.{answer_lines}
use Rattle.pi_engine.specs.Happens.{sum_of_loads}
use Rattle.pi_rewrite.specs.Laws.{RunsTheSame}
use Rattle.pi_top.specs.declared.manner.Lines.{Lines}
use Rattle.pi_top.specs.declared.manner.Manner.{Manner}
use Rattle.pi_top.specs.Headline.{IsPart, Headline, HowCut, in_answer, in_text, in_line, at_memory, IsCutOff}
use Rattle.pi_top.specs.Prefix.{IsPrefix}
use Rattle.pi_top.specs.Printing.{print}
use Rattle.pi_top.specs.QueryEnd.{QueryEnd, Stopped, NoMore, No, Exception, StepsSpent, WorkSpent, count_answers, EndsWithLast, IsWhole, IsBeforeLoad, Ends}
use Rattle.pi_top.specs.Running.{print_solutions, IsQueryPart, QueryEnds, HowQueryIsCut, QueryIsCut}
use Rattle.pi_top.specs.Handing.{Written}
use Rattle.pi_top.specs.ToldLines.{where_told, end_lines}
use Rattle.pi_top.specs.Took.{Took, Takes, TakesMore, TakesAt}
use Rattle.pi_top.specs.QueryWords.{asked_in}

-- what the events of a query tell
abbrev pub told : List NameSlot → List (Emitted Solution) → List (Emitted Told)
told names events = map (told_event (solution_told names)) events

pub told-prints : (lines : Lines) (names : List NameSlot) (events : List (Emitted Solution)) → print lines (told names events) ≡ print_solutions lines names events
unfolding print print_solutions answer_of
told-prints lines names [] = refl
told-prints lines names (noted Tick ∷ events) = told-prints lines names events
told-prints lines names (noted (Load k) ∷ events) = told-prints lines names events
told-prints lines names (noted (Out text) ∷ events) = ap (λ l. text ∷ l) (told-prints lines names events)
told-prints lines names (answered x ∷ events) = ap (λ l. where_told lines (answer_lines (answer_of names x)) ++ l) (told-prints lines names events)

pub told-ticks : (names : List NameSlot) (events : List (Emitted Solution)) → count_ticks (told names events) ≡ count_ticks events
unfolding count_ticks
told-ticks names [] = refl
told-ticks names (noted Tick ∷ events) = ap suc (told-ticks names events)
told-ticks names (noted (Load k) ∷ events) = told-ticks names events
told-ticks names (noted (Out text) ∷ events) = told-ticks names events
told-ticks names (answered x ∷ events) = told-ticks names events

told-loads : (names : List NameSlot) (events : List (Emitted Solution)) → sum_of_loads (told names events) ≡ sum_of_loads events
unfolding sum_of_loads
told-loads names [] = refl
told-loads names (noted Tick ∷ events) = told-loads names events
told-loads names (noted (Load k) ∷ events) = ap (λ n. k + n) (told-loads names events)
told-loads names (noted (Out text) ∷ events) = told-loads names events
told-loads names (answered x ∷ events) = told-loads names events

told-answers : (names : List NameSlot) (events : List (Emitted Solution)) → count_answers (told names events) ≡ count_answers events
unfolding count_answers
told-answers names [] = refl
told-answers names (noted n ∷ events) = told-answers names events
told-answers names (answered x ∷ events) = ap suc (told-answers names events)

told-prefix : (names : List NameSlot) (front whole : List (Emitted Solution)) → IsPrefix front whole → IsPrefix (told names front) (told names whole)
told-prefix names front whole is = record {
  rest = told names is.rest;
  whole_is = ap (told names) is.whole_is ∙ map-append (told_event (solution_told names)) front is.rest;
}

-- ---- what was taken

pub told-takes : (names : List NameSlot) (took : Took) (part : List (Emitted Solution)) → Takes took part → Takes took (told names part)
told-takes names took part is =
    let ticks = told-ticks names part in
    let loads = told-loads names part in
    record { ticks = omega (arith, is.ticks, ticks); runs = omega (arith, is.runs, loads) }

told-takes-more : (names : List NameSlot) (took : Took) (part : List (Emitted Solution)) → TakesMore took part → TakesMore took (told names part)
told-takes-more names took part is =
    let ticks = told-ticks names part in
    let loads = told-loads names part in
    record { ticks = omega (arith, is.ticks, ticks); finished = is.finished; cut_off = is.cut_off; runs = is.runs; loads = omega (arith, is.loads, loads) }

pub told-takes-at : (names : List NameSlot) (work : ℕ) (ending : QueryEnd) (took : Took) (part : List (Emitted Solution)) → TakesAt work ending took part → TakesAt work ending took (told names part)
told-takes-at names work Stopped took part is = told-takes names took part is
told-takes-at names work NoMore took part is = told-takes names took part is
told-takes-at names work No took part is = told-takes names took part is
told-takes-at names work (Exception ball) took part is = told-takes names took part is
told-takes-at names work StepsSpent took part is = told-takes names took part is
told-takes-at names work WorkSpent took part is = record { used = is.used; takes = told-takes-more names took part is.takes }

-- ---- ends

pub told-last : (names : List NameSlot) (asked : ℕ) (part : List (Emitted Solution)) → EndsWithLast asked part → EndsWithLast asked (told names part)
told-last names asked part is = record {
  front = told names is.front;
  last = solution_told names is.last;
  is = ap (told names) is.is ∙ map-append (told_event (solution_told names)) is.front (answered is.last ∷ []);
  all = told-answers names part ∙ is.all;
}

told-whole : (names : List NameSlot) (asked : ℕ) (part : List (Emitted Solution)) (run : Cut Solution) (stop : CutStop) → IsWhole asked part run stop →
    IsWhole asked (told names part) (told_cut (solution_told names) run) stop
told-whole names asked part run stop is = record {
  fewer = let same = told-answers names part in omega (arith, same, is.fewer);
  whole = ap (told names) is.whole;
  stops = is.stops;
}

told-load : (names : List NameSlot) (asked : ℕ) (part : List (Emitted Solution)) (run : Cut Solution) → IsBeforeLoad asked part run → IsBeforeLoad asked (told names part) (told_cut (solution_told names) run)
told-load names asked part run is = record {
  fewer = let same = told-answers names part in omega (arith, same, is.fewer);
  load = is.load;
  next = subst (λ (front : List (Emitted Told)). IsPrefix front (told names run.events)) (map-append (told_event (solution_told names)) part (noted (Load is.load) ∷ [])) (told-prefix names (part ++ noted (Load is.load) ∷ []) run.events is.next);
}

pub told-ends : (names : List NameSlot) (asked : ℕ) (part : List (Emitted Solution)) (run : Cut Solution) (ending : QueryEnd) → Ends asked part run ending →
    Ends asked (told names part) (told_cut (solution_told names) run) ending
told-ends names asked part run Stopped is = told-last names asked part is
told-ends names asked part run NoMore is = (told-whole names asked part run (Ended Done) is.0, let same = told-answers names part in omega (arith, same, is.1))
told-ends names asked part run No is = (told-whole names asked part run (Ended Done) is.0, told-answers names part ∙ is.1)
told-ends names asked part run (Exception ball) is = told-whole names asked part run (Ended (Raise ball)) is
told-ends names asked part run StepsSpent is = told-whole names asked part run Spent is
told-ends names asked part run WorkSpent is = told-load names asked part run is

pub told-cut : (manner : Manner) (q : QueryTree) (run : Cut Solution) (part : List (Emitted Solution)) (took : Took) (status : ℕ) (writes : List SinkWrite) →
    HowQueryIsCut manner.lines manner.answers manner.work q run part took status writes → HowCut manner (told_cut (solution_told q.names) run) (told q.names part) took status writes
unfolding answer_of
told-cut manner q run part took status writes (HowQueryIsCut.in_answer eight count earlier x is few takes) =
    let asked = told-answers q.names part in
    in_answer eight (told-takes q.names took part count) (told q.names earlier) (solution_told q.names x)
    (ap (told q.names) is ∙ map-append (told_event (solution_told q.names)) earlier (answered x ∷ [])) (omega (arith, asked, few)) (rw (told-prints manner.lines q.names earlier) takes)
told-cut manner q run part took status writes (HowQueryIsCut.in_text eight count earlier text is few takes) =
    let asked = told-answers q.names part in
    in_text eight (told-takes q.names took part count) (told q.names earlier) text
    (ap (told q.names) is ∙ map-append (told_event (solution_told q.names)) earlier (noted (Out text) ∷ [])) (omega (arith, asked, few)) (rw (told-prints manner.lines q.names earlier) takes)
told-cut manner q run part took status writes (HowQueryIsCut.in_line eight ending ends count takes) =
    in_line eight ending (told-ends q.names manner.answers part run ending ends) (told-takes-at q.names manner.work ending took part count) (rw (told-prints manner.lines q.names part) takes)
told-cut manner q run part took status writes (HowQueryIsCut.at_memory nine count few takes) =
    let asked = told-answers q.names part in
    at_memory nine (told-takes-more q.names took part count) (omega (arith, asked, few)) (rw (told-prints manner.lines q.names part) takes)

-- ---- what it comes to

pub part-over-names : (program : ProgramTree) (goal : ExpTree) (preds : List PredTree) (q : QueryTree) (steps : ℕ) (run : Cut Solution) (part : List (Emitted Solution)) →
    RunsTheSame program goal preds q → IsQueryPart preds q steps run part → IsPart program goal [] steps (told_cut (solution_told q.names) run) (told q.names part)
part-over-names program goal preds q steps run part is has = record {
  is_run = λ later allows. is (query_view []) later allows steps run has.is_run;
  begins = told-prefix q.names part run.events has.begins;
}

pub ends-over-names : (manner : Manner) (program : ProgramTree) (goal : ExpTree) (preds : List PredTree) (q : QueryTree) (took : Took) (status : ℕ) (writes : List SinkWrite) →
    RunsTheSame program goal preds q → QueryEnds (asked_in manner preds q) took status writes →
    Written (Headline manner program goal [] took status) writes
ends-over-names manner program goal preds q took status writes is has = record {
  texts = print_solutions manner.lines q.names has.part ++ end_lines manner.lines has.ending;
  comes = record {
    run = told_cut (solution_told q.names) has.run;
    part = told q.names has.part;
    is_part = part-over-names program goal preds q manner.steps has.run has.part is has.is_part;
    ending = has.ending;
    ends = told-ends q.names manner.answers has.part has.run has.ending has.ends;
    takes = told-takes-at q.names manner.work has.ending took has.part has.takes;
    its_status = has.its_status;
    written = ap (λ l. l ++ end_lines manner.lines has.ending) (sym (told-prints manner.lines q.names has.part));
  };
  handed = has.written;
}

pub cut-over-names : (manner : Manner) (program : ProgramTree) (goal : ExpTree) (preds : List PredTree) (q : QueryTree) (took : Took) (status : ℕ) (writes : List SinkWrite) →
    RunsTheSame program goal preds q → QueryIsCut (asked_in manner preds q) took status writes → IsCutOff manner program goal [] took status writes
cut-over-names manner program goal preds q took status writes is has = record {
  run = told_cut (solution_told q.names) has.run;
  part = told q.names has.part;
  is_part = part-over-names program goal preds q manner.steps has.run has.part is has.is_part;
  how = told-cut manner q has.run has.part took status writes has.how;
}
