-- What was written of a run that a failed write cut off, with status 8, or want of memory, with status 9.
use Rattle.std.specs.Prelude.{◌≡◌, ℕ, List, Option, None, Some}
use Rattle.pi_outside.specs.Reads.{FileRead}
use Rattle.pi_outside.specs.Writes.{SinkWrite}
use Rattle.pi_syntax.specs.ExpTree.{ExpTree}
use Rattle.pi_syntax.specs.ProgramTree.{ProgramTree}
use Rattle.pi_print_program.specs.Canonical.{canonical_text}
use Rattle.pi_top.specs.declared.runs.QueryRun.{QueryRun}
use Rattle.pi_top_words.specs.declared.run_mode.RunMode.{RunMode}
use Rattle.pi_top_words.specs.declared.run_mode.RunMode.TheVariants.{Query, Run, Print, Demo}
use Rattle.pi_top_words.specs.declared.asked.Options.{Options}
use Rattle.pi_top_words.specs.Words.{places_of}
use Rattle.pi_top.specs.Demo.{demo_program}
use Rattle.pi_top.specs.declared.manner.Manner.{Manner}
use Rattle.pi_top.specs.Faults.{FaultCount, Stands, Rises}
use Rattle.pi_top.specs.FaultLines.{of_program}
use Rattle.pi_top.specs.Judged.{IsProgramLine, IsProgramText, Refused, Asks}
use Rattle.pi_top.specs.Manner.{manner_of, goal_of}
use Rattle.pi_top.specs.Reading.{ReadsText, FailsReading, StopsReading}
use Rattle.pi_top.specs.Runs.{WasCutOff}
use Rattle.pi_top.specs.Statuses.{IsUnread, usage_line}
use Rattle.pi_top.specs.SoleLine.{read_fault_line}
use Rattle.pi_top.specs.Texts.{IsRead}
use Rattle.pi_top.specs.Stops.{IsNothing, IsFront}
use Rattle.pi_top.specs.Told.{FilesRead, Lists}

-- with a program's text and a goal's
pub data CutText (manner : Manner) (text goal : List ℕ) (runs : Lists) (status : ℕ) (writes : List SinkWrite) : Type 0 where
  nothing : IsNothing runs.queries status writes → CutText manner text goal runs status writes
  refused : (line : List ℕ) → Refused text goal line → IsFront line runs.queries status writes → CutText manner text goal runs status writes
  running : (program : ProgramTree) (of_program : ExpTree) → Asks text goal program of_program →
      WasCutOff manner program of_program runs status writes → CutText manner text goal runs status writes

-- with a program's text that is printed
pub data CutPrinted (text : List ℕ) (queries : List QueryRun) (status : ℕ) (writes : List SinkWrite) : Type 0 where
  nothing : IsNothing queries status writes → CutPrinted text queries status writes
  faulty : (fault : List ℕ) → IsProgramLine text fault → IsFront (of_program fault) queries status writes → CutPrinted text queries status writes
  printing : (program : ProgramTree) → IsProgramText text program → IsFront (canonical_text program) queries status writes → CutPrinted text queries status writes

-- with a program's text, in a mode with a file
abbrev pub CutOf : RunMode → Options → List ℕ → Lists → ℕ → List SinkWrite → Type 0
CutOf Print asked text runs status writes = CutPrinted text runs.queries status writes
CutOf other asked text runs status writes = CutText (manner_of asked) text (goal_of asked) runs status writes

-- with a program that is in a file
pub data CutFile (asked : Options) (files : FilesRead) (runs : Lists) (status : ℕ) (writes : List SinkWrite) : Type 0 where
  nothing : Stands files.count → StopsReading asked.file files.reads → IsNothing runs.queries status writes → CutFile asked files runs status writes
  read_fault : Rises files.count → FailsReading asked.file files.reads → IsFront read_fault_line runs.queries status writes → CutFile asked files runs status writes
  was_read : Stands files.count → (text : List ℕ) → ReadsText asked.file text files.reads → IsRead files.held asked.file text → CutOf asked.mode asked text runs status writes →
      CutFile asked files runs status writes

-- with a program that is made of a number
pub data CutMade (asked : Options) (files : FaultCount) (reads : List FileRead) (runs : Lists) (status : ℕ) (writes : List SinkWrite) : Type 0 where
  nothing : IsUnread files reads → IsNothing runs.queries status writes → CutMade asked files reads runs status writes
  was_made : IsUnread files reads → (places : ℕ) → places_of asked ≡ Some places → CutText (manner_of asked) (demo_program places) (goal_of asked) runs status writes →
      CutMade asked files reads runs status writes

-- where no file is read and this line is to be written
pub data CutLine (line : List ℕ) (files : FaultCount) (reads : List FileRead) (queries : List QueryRun) (status : ℕ) (writes : List SinkWrite) : Type 0 where
  nothing : IsUnread files reads → IsNothing queries status writes → CutLine line files reads queries status writes
  front_of : IsUnread files reads → IsFront line queries status writes → CutLine line files reads queries status writes

-- in a mode; of a session it is told by `SessionEnds`
abbrev pub CutIn : RunMode → Options → FilesRead → Lists → ℕ → List SinkWrite → Type 0
CutIn Query asked files runs status writes = CutFile asked files runs status writes
CutIn Run asked files runs status writes = CutFile asked files runs status writes
CutIn Print asked files runs status writes = CutFile asked files runs status writes
CutIn Demo asked files runs status writes = CutMade asked files.count files.reads runs status writes
CutIn other asked files runs status writes = ⊥

-- by what the words ask
abbrev pub CutBy : Option Options → FilesRead → Lists → ℕ → List SinkWrite → Type 0
CutBy None files runs status writes = CutLine usage_line files.count files.reads runs.queries status writes
CutBy (Some asked) files runs status writes = CutIn asked.mode asked files runs status writes
