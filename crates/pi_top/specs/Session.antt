-- A session: the lines of its input are served one after the other, each by its reads and then its writes. That a line is served before the input is read again shows where a write of it fails: the reads end with that line.
use Rattle.std.specs.Prelude.{◌≡◌, ℕ, suc, List, [], ◌∷◌, ◌++◌, take, map}
use Rattle.pi_outside.specs.Inputs.{SourceRead, given_in}
use Rattle.pi_outside.specs.Writes.{SinkWrite, taken_by}
use Rattle.pi_syntax.specs.ProgramTree.{ProgramTree}
use Rattle.pi_core.specs.declared.log.LogEntry.{LogEntry}
use Rattle.pi_outside.specs.Ahead.{Ahead, at_start}
use Rattle.pi_outside.specs.Finding.{FindsLine, MeetsEnd, PassesLimit, FailsReading, StopsReading}
use Rattle.pi_outside.specs.Order.{FoundSoFar}
use Rattle.pi_outside.specs.Requests.{request_of}
use Rattle.pi_top.specs.declared.manner.Manner.{Manner}
use Rattle.pi_top.specs.declared.runs.QueryRun.{QueryRun}
use Rattle.pi_top.specs.Faults.{FaultCount, Stands, Rises}
use Rattle.pi_top.specs.Handing.{HandsAll, FailsIn}
use Rattle.pi_top.specs.Runs.{HaveWorkLeft, but_for_runs}
use Rattle.pi_top.specs.Serving.{Present, no_query, input_too_long_line, Serves, CutServing}
use Rattle.pi_top.specs.SoleLine.{read_fault_line}
use Rattle.pi_top.specs.Told.{InputRead, input_read, Lists, lists}

-- These lines were found and served, each by its reads and then its writes: here the reader stands, and this is the present query. (There is no planner yet, so the log is empty, and each query left it so.)
pub data ServedSoFar (manner : Manner) (program : ProgramTree) (log : List LogEntry) (most : ℕ) : List (List ℕ) → Present → List QueryRun → Ahead → List SourceRead → List SinkWrite → Type 0 where
  at_first : ServedSoFar manner program log most [] no_query [] (at_start most) [] []
  one_more : (lines : List (List ℕ)) (present next : Present) (runs more : List QueryRun) (ahead after : Ahead) (reads its : List SourceRead) (writes its_writes : List SinkWrite) (line : List ℕ) →
      ServedSoFar manner program log most lines present runs ahead reads writes → FindsLine ahead its line after → Serves manner program log present (request_of line) next runs more its_writes →
      ServedSoFar manner program log most (lines ++ line ∷ []) next more after (reads ++ its) (writes ++ its_writes)

-- a session up to some line, with the reads and writes that come behind
pub record Served (manner : Manner) (program : ProgramTree) (log : List LogEntry) (most : ℕ) (reads its : List SourceRead) (writes its_writes : List SinkWrite) : Type 0 where
  pub lines : List (List ℕ)
  pub present : Present
  pub runs : List QueryRun
  pub ahead : Ahead
  pub earlier : List SourceRead
  pub earlier_writes : List SinkWrite
  pub so_far : ServedSoFar manner program log most lines present runs ahead earlier earlier_writes
  pub reads_are : reads ≡ earlier ++ its
  pub writes_are : writes ≡ earlier_writes ++ its_writes

-- How a session ends: its input is at its end, and what stands behind the last line feed is served; it has more bytes than it may have; or a read of it failed.
pub data SessionComes (manner : Manner) (program : ProgramTree) (input : InputRead) (runs : Lists) (status : ℕ) (writes : List SinkWrite) : Type 0 where
  to_its_end : status ≡ 0 → Stands input.count → (its : List SourceRead) (its_writes : List SinkWrite) (served : Served manner program runs.log input.most input.reads its writes its_writes) (line : List ℕ) (next : Present) →
      MeetsEnd served.ahead its line → Serves manner program runs.log served.present (request_of line) next served.runs runs.queries its_writes →
      SessionComes manner program input runs status writes
  past_limit : status ≡ 3 → Stands input.count → (its : List SourceRead) (its_writes : List SinkWrite) (served : Served manner program runs.log input.most input.reads its writes its_writes) →
      PassesLimit served.ahead its → runs.queries ≡ served.runs → HandsAll (input_too_long_line ∷ []) its_writes → SessionComes manner program input runs status writes
  read_fault : status ≡ 7 → Rises input.count → (its : List SourceRead) (its_writes : List SinkWrite) (served : Served manner program runs.log input.most input.reads its writes its_writes) →
      FailsReading served.ahead its → runs.queries ≡ served.runs → HandsAll (read_fault_line ∷ []) its_writes → SessionComes manner program input runs status writes

-- What was written of a session that a failed write cut off, with status 8, or want of memory, with status 9.
pub data SessionCut (manner : Manner) (program : ProgramTree) (input : InputRead) (runs : Lists) (status : ℕ) (writes : List SinkWrite) : Type 0 where
  while_reading : status ≡ 9 → Stands input.count → (its : List SourceRead) (served : Served manner program runs.log input.most input.reads its writes []) → StopsReading served.ahead its → runs.queries ≡ served.runs →
      SessionCut manner program input runs status writes
  at_a_line : Stands input.count → (its : List SourceRead) (its_writes : List SinkWrite) (served : Served manner program runs.log input.most input.reads its writes its_writes) (line : List ℕ) (after : Ahead) →
      FindsLine served.ahead its line after → CutServing manner program runs.log served.present (request_of line) served.runs runs.queries status its_writes →
      SessionCut manner program input runs status writes
  at_its_end : Stands input.count → (its : List SourceRead) (its_writes : List SinkWrite) (served : Served manner program runs.log input.most input.reads its writes its_writes) (line : List ℕ) →
      MeetsEnd served.ahead its line → CutServing manner program runs.log served.present (request_of line) served.runs runs.queries status its_writes →
      SessionCut manner program input runs status writes
  past_limit : status ≡ 8 → Stands input.count → (its : List SourceRead) (its_writes : List SinkWrite) (served : Served manner program runs.log input.most input.reads its writes its_writes) →
      PassesLimit served.ahead its → runs.queries ≡ served.runs → FailsIn [] (input_too_long_line ∷ []) its_writes → SessionCut manner program input runs status writes
  read_fault : status ≡ 8 → Rises input.count → (its : List SourceRead) (its_writes : List SinkWrite) (served : Served manner program runs.log input.most input.reads its writes its_writes) →
      FailsReading served.ahead its → runs.queries ≡ served.runs → FailsIn [] (read_fault_line ∷ []) its_writes → SessionCut manner program input runs status writes

-- the lines that were served are those that were found, one after the other, in the input
abbrev pub ServesItsLines : Type 0
ServesItsLines = (manner : Manner) (program : ProgramTree) (log : List LogEntry) (most : ℕ) (lines : List (List ℕ)) (present : Present) (runs : List QueryRun) (ahead : Ahead) (reads : List SourceRead) (writes : List SinkWrite) →
    ServedSoFar manner program log most lines present runs ahead reads writes → FoundSoFar most lines reads ahead

-- Where no read of it fails, no query's work reached what it may do, and the input gave the same, up to one byte more than it may have, a session comes to one thing, whatever the pieces: its status, the goals that were run with their Ticks, and the bytes that were
-- written. Of the runs of propagators that a query took there are bounds alone.
abbrev pub SessionsAreOne : Type 0
SessionsAreOne = (manner : Manner) (program : ProgramTree) (log : List LogEntry) (most : ℕ) (input other : FaultCount) (queries runs : List QueryRun) (status its : ℕ) (reads more : List SourceRead) (writes others : List SinkWrite) →
    (Rises input → ⊥) → (Rises other → ⊥) → HaveWorkLeft manner.work queries → HaveWorkLeft manner.work runs → take (suc most) (given_in reads) ≡ take (suc most) (given_in more) →
    SessionComes manner program (input_read most input reads) (lists queries log) status writes → SessionComes manner program (input_read most other more) (lists runs log) its others → (status ≡ its) × (map but_for_runs queries ≡ map but_for_runs runs) × (taken_by writes ≡ taken_by others)
