-- How a run in the mode `session` ends: the program's file is read, and the program judged, before the input is read.
use Rattle.std.specs.Prelude.{◌≡◌, ℕ, List, [], ◌++◌, Result, Ok, Err}
use Rattle.pi_outside.specs.Inputs.{SourceRead}
use Rattle.pi_outside.specs.Writes.{SinkWrite}
use Rattle.pi_syntax.specs.ProgramTree.{ProgramTree}
use Rattle.pi_top_words.specs.declared.asked.Options.{Options}
use Rattle.pi_top.specs.declared.query.Stop.{Stop}
use Rattle.pi_top.specs.Asking.{IsReady, IsUnready}
use Rattle.pi_top.specs.Stops.{IsNothing, IsFront}
use Rattle.pi_top.specs.Stops.{WritesMemory, status_of_stop}
use Rattle.pi_top.specs.Faults.{FaultCount, Stands, Rises}
use Rattle.pi_top.specs.Manner.{as_asked}
use Rattle.pi_top.specs.Reading.{ReadsText, FailsReading, StopsReading}
use Rattle.pi_top.specs.Session.{SessionComes, SessionCut}
use Rattle.pi_top.specs.SoleLine.{IsLine, read_fault_line}
use Rattle.pi_top.specs.Handing.{Written}
use Rattle.pi_top.specs.Texts.{IsRead}
use Rattle.pi_top.specs.Told.{FilesRead, InputRead, SinkWritten, Lists}

-- the most bytes of a session's input
abbrev pub most_input : ℕ
most_input = 1073741824

-- the input wasn't read
pub record IsUntouched (input : FaultCount) (inputs : List SourceRead) : Type 0 where
  pub stands : Stands input
  pub no_read : inputs ≡ []

-- the text was read of the program's file
pub record WasRead (asked : Options) (files : FilesRead) (text : List ℕ) : Type 0 where
  pub stands : Stands files.count
  pub reads_text : ReadsText asked.file text files.reads
  pub is_read : IsRead files.held asked.file text

-- what was written where no goal is asked of a program's text, or the goals of the input are
pub data SessionText (asked : Options) (text : List ℕ) (input : InputRead) (runs : Lists) (status : ℕ) (writes : List SinkWrite) : Type 0 where
  refused : IsUntouched input.count input.reads → (line : List ℕ) → IsUnready text line → Written (IsLine line 3 status runs.queries) writes → SessionText asked text input runs status writes
  served : (program : ProgramTree) → IsReady text program → SessionComes (as_asked asked) program input runs status writes →
      SessionText asked text input runs status writes

-- with a program that is in a file: a read of it failed, and was the last, or its text was read and none failed
pub data SessionFile (asked : Options) (files : FilesRead) (input : InputRead) (runs : Lists) (status : ℕ) (writes : List SinkWrite) : Type 0 where
  read_fault : Rises files.count → FailsReading asked.file files.reads → IsUntouched input.count input.reads → Written (IsLine read_fault_line 7 status runs.queries) writes →
      SessionFile asked files input runs status writes
  was_read : (text : List ℕ) → WasRead asked files text → SessionText asked text input runs status writes → SessionFile asked files input runs status writes

-- where a failed write cut it off, or want of memory
pub data CutSessionText (asked : Options) (text : List ℕ) (input : InputRead) (runs : Lists) (status : ℕ) (writes : List SinkWrite) : Type 0 where
  nothing : IsUntouched input.count input.reads → IsNothing runs.queries status writes → CutSessionText asked text input runs status writes
  refused : IsUntouched input.count input.reads → (line : List ℕ) → IsUnready text line → IsFront line runs.queries status writes → CutSessionText asked text input runs status writes
  serving : (program : ProgramTree) → IsReady text program → SessionCut (as_asked asked) program input runs status writes →
      CutSessionText asked text input runs status writes

pub data CutSessionFile (asked : Options) (files : FilesRead) (input : InputRead) (runs : Lists) (status : ℕ) (writes : List SinkWrite) : Type 0 where
  nothing : Stands files.count → StopsReading asked.file files.reads → IsUntouched input.count input.reads → IsNothing runs.queries status writes →
      CutSessionFile asked files input runs status writes
  read_fault : Rises files.count → FailsReading asked.file files.reads → IsUntouched input.count input.reads → IsFront read_fault_line runs.queries status writes →
      CutSessionFile asked files input runs status writes
  was_read : (text : List ℕ) → WasRead asked files text → CutSessionText asked text input runs status writes → CutSessionFile asked files input runs status writes

-- By these reads of files, these reads of the input and these writes, and no others, a run came to its end. All is written that there is to write, and no write failed; or one failed, and was the last, and
-- none of the line on want of memory; or memory was wanted, and that line is written, or a front of it where its write failed, behind what was written until then, of which no write failed.
pub data SessionEnds (asked : Options) (files : FilesRead) (input : InputRead) (runs : Lists) (status : ℕ) (sink : SinkWritten) : Type 0 where
  all_written : Stands sink.count → SessionFile asked files input runs status sink.writes → SessionEnds asked files input runs status sink
  write_failed : status ≡ 8 → Rises sink.count → CutSessionFile asked files input runs status sink.writes → SessionEnds asked files input runs status sink
  memory_wanted : status ≡ 9 → (earlier line : List SinkWrite) → sink.writes ≡ earlier ++ line → CutSessionFile asked files input runs status earlier → WritesMemory sink.count line →
      SessionEnds asked files input runs status sink

-- ---- the same of the parts of a run, by what they answer

abbrev pub AnswersSessionText : Options → List ℕ → InputRead → Lists → Result ℕ Stop → List SinkWrite → Type 0
AnswersSessionText asked text input runs (Ok status) writes = SessionText asked text input runs status writes
AnswersSessionText asked text input runs (Err stop) writes = CutSessionText asked text input runs (status_of_stop stop) writes

abbrev pub AnswersSessionFile : Options → FilesRead → InputRead → Lists → Result ℕ Stop → List SinkWrite → Type 0
AnswersSessionFile asked files input runs (Ok status) writes = SessionFile asked files input runs status writes
AnswersSessionFile asked files input runs (Err stop) writes = CutSessionFile asked files input runs (status_of_stop stop) writes
