-- A request of a session's query: what it comes to at its end, and where as many answers were written as are asked for.
use Rattle.std.proofs.Common.{◌≡◌, ◌<◌, ℕ, ◌+◌, List, [], ◌++◌, Ok, subst, arith}
use Rattle.pi_outside.specs.Writes.{SinkWrite}
use Rattle.pi_core.specs.CoreTree.{PredTree, QueryTree}
use Rattle.pi_print_terms.specs.PrintAnswer.{answer_lines}
use Rattle.pi_core.specs.declared.answer.Answer.{Answer}
use Rattle.pi_meaning.specs.declared.happening.Budget.{Budget}
use Rattle.pi_meaning.specs.declared.happening.Happening.{Happening}
use Rattle.pi_engine.specs.Seen.{MachineView}
use Rattle.pi_top.specs.declared.manner.Lines.{Lines}
use Rattle.pi_top.specs.declared.manner.Manner.{Manner}
use Rattle.pi_top.specs.Handing.{HandsAll}
use Rattle.pi_top.specs.QueryEnd.{QueryEnd, EndsWithLast, Ends}
use Rattle.pi_top.specs.PresentCode.{CanAnswer}
use Rattle.pi_top.specs.Running.{HowQueryIsCut, QueryIsCut, IsCutBehind, IsAtStart, IsWritten, IsNext, ComesTo}
use Rattle.pi_top.specs.ToldLines.{where_told}
use Rattle.pi_top.specs.Took.{Bounds, bounds_of, bounds_in, Took}
use Rattle.pi_top.specs.Turn.{EndsAt, IsCutAt}
use Rattle.pi_top.proofs.QueryRuns.{written-start, written-answer}
use Rattle.pi_top.proofs.QueryEndings.{EndsBehind}
use Rattle.pi_top.specs.QueryWords.{asked_query, told_query}

-- a query that begins may be asked for its first answer
pub can-start : {M : Type 0} (manner : Manner) (m : MachineView M) (b : Budget) (program : List PredTree) (q : QueryTree) → IsAtStart m b manner.answers program q → bounds_in b ≡ bounds_of manner → CanAnswer manner program q m b 0 []
can-start manner m b program q start its_bounds = record {
  written = written-start manner.lines m b manner.answers program q start;
  runnable = start.runnable;
  fewer = start.asked;
  its_bounds = its_bounds;
}

-- what comes next is an answer, and its lines were written
pub next-answer : {M : Type 0} (lines : Lines) (n : MachineView M) (c : Budget) (given : ℕ) (program : List PredTree) (q : QueryTree) (happening : Happening) (a : Answer) (before its : List SinkWrite) →
    happening ≡ Happening.Answer a → IsNext (told_query lines program q) n c given happening before → HandsAll (where_told lines (answer_lines a)) its → IsWritten (told_query lines program q) n c (given + 1) (before ++ its)
next-answer lines n c given program q happening a before its is next handed =
    written-answer lines next.before n next.budget c given program q a before its next.so_far next.called (rw is at next.happens) (rw is at next.lasts) handed

-- the line of an end was written: it is no `stopped`, since with one answer more asked for it is the end too
pub ends-at : (lines : Lines) (answers given : ℕ) (may : Bounds) (program : List PredTree) (q : QueryTree) (took : Took) (status : ℕ) (writes : List SinkWrite) →
    EndsBehind lines given may program q took status writes → EndsAt (asked_query lines answers may program q) (given + 1) took writes
ends-at lines answers given may program q took status writes is =
    let next : Ends (given + 1) is.part is.run is.ending = is.ends (given + 1) (omega arith) in
    let later : Ends (given + 2) is.part is.run is.ending = is.ends (given + 2) (omega arith) in
    record {
      run = is.run;
      part = is.part;
      is_part = is.is_part;
      ending = is.ending;
      ends = next;
      takes = is.takes;
      at_limit = λ stopped.
          let one : EndsWithLast (given + 1) is.part = subst (λ (e : QueryEnd). Ends (given + 1) is.part is.run e) stopped next in
          let two : EndsWithLast (given + 2) is.part = subst (λ (e : QueryEnd). Ends (given + 2) is.part is.run e) stopped later in
          absurd (omega (arith, one.all, two.all));
      written = is.written;
    }

-- what is cut off behind the answers before is cut off within the next request
pub cut-at : (lines : Lines) (answers given : ℕ) (may its : Bounds) (program : List PredTree) (q : QueryTree) (took : Took) (status : ℕ) (writes : List SinkWrite) → its ≡ may → given < answers →
    IsCutBehind (told_query lines program q) given its took status writes → IsCutAt (asked_query lines answers may program q) (given + 1) took status writes
cut-at lines answers given may its program q took status writes same less cut =
    let it : IsCutBehind (told_query lines program q) given may took status writes = subst (λ b. IsCutBehind (told_query lines program q) given b took status writes) same cut in
    record { run = it.run; part = it.part; is_part = it.is_part; at_request = it.how (given + 1) (omega arith); in_all = it.how answers less }

-- ---- at the last answer that is asked for

-- what it comes to with an end is its end
pub ends-at-limit : (lines : Lines) (answers requests : ℕ) (may : Bounds) (program : List PredTree) (q : QueryTree) (took : Took) (status : ℕ) (writes : List SinkWrite) → requests ≡ answers →
    ComesTo (asked_query lines requests may program q) took (Ok status) writes → EndsAt (asked_query lines answers may program q) requests took writes
ends-at-limit lines answers requests may program q took status writes all is = record {
  run = is.run;
  part = is.part;
  is_part = is.is_part;
  ending = is.ending;
  ends = is.ends;
  takes = is.takes;
  at_limit = λ stopped. all;
  written = is.written;
}

-- or that is cut off
pub cut-at-limit : (lines : Lines) (answers requests : ℕ) (may : Bounds) (program : List PredTree) (q : QueryTree) (took : Took) (status : ℕ) (writes : List SinkWrite) → requests ≡ answers →
    QueryIsCut (asked_query lines requests may program q) took status writes → IsCutAt (asked_query lines answers may program q) requests took status writes
cut-at-limit lines answers requests may program q took status writes all cut = record {
  run = cut.run;
  part = cut.part;
  is_part = cut.is_part;
  at_request = cut.how;
  in_all = subst (λ n. HowQueryIsCut lines n may.work q cut.run cut.part took status writes) all cut.how;
}
