-- How one line of a session is served: what it asks is done, by these writes, and then another query is the present one, or none.
use Rattle.std.specs.Prelude.{◌≡◌, ◌<◌, ℕ, suc, List, [], ◌∷◌, ◌++◌}
use lib.Chars.{codes}
use Rattle.pi_outside.specs.Writes.{SinkWrite}
use Rattle.pi_syntax.specs.ExpTree.{ExpTree}
use Rattle.pi_syntax.specs.ProgramTree.{ProgramTree}
use Rattle.pi_traces.specs.Trace.{Emitted}
use Rattle.pi_traces.specs.Depth.{Cut}
use Rattle.pi_meaning.specs.OverNames.Telling.{Told}
use Rattle.pi_core.specs.declared.log.LogEntry.{LogEntry}
use Rattle.pi_outside.specs.Requests.{Asked, nothing, another, too_long, a_goal}
use Rattle.pi_top.specs.declared.manner.Manner.{Manner}
use Rattle.pi_top.specs.declared.runs.QueryRun.{QueryRun}
use Rattle.pi_top.specs.Asking.{AsksOf, RefusesOf}
use Rattle.pi_top.specs.Handing.{Hands, HandsAll, FailsIn}
use Rattle.pi_top.specs.Headline.{IsPart, Headline, HowCut}
use Rattle.pi_top.specs.Printing.{print}
use Rattle.pi_top.specs.QueryEnd.{Stopped, EndsWithLast}
use Rattle.pi_top.specs.Runs.{run_of}
use Rattle.pi_top.specs.Took.{Took, Takes}

abbrev pub no_query_line : List ℕ
no_query_line = codes "no query\n"

abbrev pub line_too_long : List ℕ
line_too_long = codes "goal: TooLong\n"

abbrev pub input_too_long_line : List ℕ
input_too_long_line = codes "input too long\n"

-- The present query of a session: its goal, how many requests it has had, which are its own line and each `;` since, and the writes for these; or there is none.
pub data Present : Type 0 where
  no_query : Present
  query : ExpTree → ℕ → List SinkWrite → Present

-- Each of a query's requests was answered, and fewer answers were written than are asked for: a part of its run ends with the answer to the last request, and its writes hand over what this part prints.
pub record QuerySoFar (manner : Manner) (program : ProgramTree) (goal : ExpTree) (log : List LogEntry) (requests : ℕ) (took : Took) (writes : List SinkWrite) : Type 0 where
  pub run : Cut Told
  pub part : List (Emitted Told)
  pub is_part : IsPart program goal log manner.steps run part
  pub takes : Takes took part
  pub last : EndsWithLast requests part
  pub fewer : requests < manner.answers
  pub written : HandsAll (print manner.lines part) writes

-- of so many requests of a query
abbrev pub requested : Manner → ℕ → Manner
requested manner requests = record manner { answers = requests }

-- At its last request a query ended: what was said of a goal that is asked holds with its requests in place of all answers that are asked for, and its writes hand over these texts. It is stopped where as many answers were written as are asked for.
pub record QueryEnded (manner : Manner) (program : ProgramTree) (goal : ExpTree) (log : List LogEntry) (requests : ℕ) (took : Took) (writes : List SinkWrite) : Type 0 where
  pub status : ℕ
  pub texts : List (List ℕ)
  pub headline : Headline (requested manner requests) program goal log took status texts
  pub at_limit : headline.ending ≡ Stopped → requests ≡ manner.answers
  pub written : HandsAll texts writes

-- A query was cut off within the last of so many requests, and so it was with all answers that are asked for in place of these requests. One part of its run for both, so the line whose write failed is no `stopped` that comes too early.
pub record QueryCutOff (manner : Manner) (program : ProgramTree) (goal : ExpTree) (log : List LogEntry) (requests : ℕ) (took : Took) (status : ℕ) (writes : List SinkWrite) : Type 0 where
  pub run : Cut Told
  pub part : List (Emitted Told)
  pub is_part : IsPart program goal log manner.steps run part
  pub at_request : HowCut (requested manner requests) run part took status writes
  pub in_all : HowCut manner run part took status writes

-- A line is served. A query is listed with what it has taken so far, from its first request on.
pub data Serves (manner : Manner) (program : ProgramTree) (log : List LogEntry) : Present → Asked → Present → List QueryRun → List QueryRun → List SinkWrite → Type 0 where
  passed_over : (present : Present) (runs : List QueryRun) → Serves manner program log present nothing present runs runs []
  has_no_query : (runs : List QueryRun) (writes : List SinkWrite) → Hands no_query_line writes → Serves manner program log no_query another no_query runs runs writes
  is_too_long : (present : Present) (runs : List QueryRun) (writes : List SinkWrite) → Hands line_too_long writes → Serves manner program log present too_long no_query runs runs writes
  refused : (present : Present) (text line : List ℕ) (runs : List QueryRun) (writes : List SinkWrite) → RefusesOf program text line → Hands line writes →
      Serves manner program log present (a_goal text) no_query runs runs writes
  answered : (present : Present) (text : List ℕ) (goal : ExpTree) (took : Took) (runs : List QueryRun) (writes : List SinkWrite) → AsksOf program text goal →
      QuerySoFar manner program goal log 1 took writes → Serves manner program log present (a_goal text) (query goal 1 writes) runs (runs ++ run_of took ∷ []) writes
  ended : (present : Present) (text : List ℕ) (goal : ExpTree) (took : Took) (runs : List QueryRun) (writes : List SinkWrite) → AsksOf program text goal →
      QueryEnded manner program goal log 1 took writes → Serves manner program log present (a_goal text) no_query runs (runs ++ run_of took ∷ []) writes
  answered_more : (goal : ExpTree) (requests : ℕ) (before took : Took) (earlier : List SinkWrite) (runs : List QueryRun) (writes : List SinkWrite) →
      QuerySoFar manner program goal log (suc requests) took (earlier ++ writes) →
      Serves manner program log (query goal requests earlier) another (query goal (suc requests) (earlier ++ writes)) (runs ++ run_of before ∷ []) (runs ++ run_of took ∷ []) writes
  ended_later : (goal : ExpTree) (requests : ℕ) (before took : Took) (earlier : List SinkWrite) (runs : List QueryRun) (writes : List SinkWrite) →
      QueryEnded manner program goal log (suc requests) took (earlier ++ writes) →
      Serves manner program log (query goal requests earlier) another no_query (runs ++ run_of before ∷ []) (runs ++ run_of took ∷ []) writes

-- a line that is written where nothing is run
pub data ServesLine (program : ProgramTree) : Present → Asked → List ℕ → Type 0 where
  has_no_query : ServesLine program no_query another no_query_line
  is_too_long : (present : Present) → ServesLine program present too_long line_too_long
  refused : (present : Present) (text line : List ℕ) → RefusesOf program text line → ServesLine program present (a_goal text) line

-- Where a line's serving is cut off: memory is wanted before anything is done; the write of its line fails; or the run of a query is cut off.
pub data CutServing (manner : Manner) (program : ProgramTree) (log : List LogEntry) : Present → Asked → List QueryRun → List QueryRun → ℕ → List SinkWrite → Type 0 where
  undone : (present : Present) (asked : Asked) (runs : List QueryRun) → CutServing manner program log present asked runs runs 9 []
  in_line : (present : Present) (asked : Asked) (line : List ℕ) (runs : List QueryRun) (writes : List SinkWrite) → ServesLine program present asked line → FailsIn [] (line ∷ []) writes →
      CutServing manner program log present asked runs runs 8 writes
  in_run : (present : Present) (text : List ℕ) (goal : ExpTree) (took : Took) (status : ℕ) (runs : List QueryRun) (writes : List SinkWrite) → AsksOf program text goal →
      QueryCutOff manner program goal log 1 took status writes → CutServing manner program log present (a_goal text) runs (runs ++ run_of took ∷ []) status writes
  in_run_later : (goal : ExpTree) (requests : ℕ) (before took : Took) (status : ℕ) (earlier : List SinkWrite) (runs : List QueryRun) (writes : List SinkWrite) →
      QueryCutOff manner program goal log (suc requests) took status (earlier ++ writes) →
      CutServing manner program log (query goal requests earlier) another (runs ++ run_of before ∷ []) (runs ++ run_of took ∷ []) status writes
