-- What a run comes to: its status, the goals that were run, and the texts that it writes.
use Rattle.std.specs.Prelude.{◌≡◌, ℕ, List, [], Option, None, Some}
use lib.Chars.{codes}
use Rattle.pi_outside.specs.Reads.{FileRead}
use Rattle.pi_syntax.specs.ExpTree.{ExpTree}
use Rattle.pi_syntax.specs.ProgramTree.{ProgramTree}
use Rattle.pi_print_program.specs.Canonical.{canonical_text}
use Rattle.pi_top.specs.declared.runs.QueryRun.{QueryRun}
use Rattle.pi_top_words.specs.declared.run_mode.RunMode.{RunMode}
use Rattle.pi_top_words.specs.declared.run_mode.RunMode.TheVariants.{Query, Run, Print, Demo}
use Rattle.pi_top_words.specs.declared.asked.Options.{Options}
use Rattle.pi_top_words.specs.Words.{places_of}
use Rattle.pi_top.specs.Demo.{demo_program}
use Rattle.pi_top.specs.declared.manner.Manner.{Manner}
use Rattle.pi_top.specs.Faults.{FaultCount, Stands, Rises}
use Rattle.pi_top.specs.FaultLines.{of_program}
use Rattle.pi_top.specs.Judged.{IsProgramLine, IsProgramText, Refused, Asks}
use Rattle.pi_top.specs.Manner.{manner_of, goal_of}
use Rattle.pi_top.specs.Reading.{ReadsText, FailsReading}
use Rattle.pi_top.specs.Runs.{HasRan}
use Rattle.pi_top.specs.Texts.{IsRead}
use Rattle.pi_top.specs.SoleLine.{IsLine, read_fault_line}
use Rattle.pi_top.specs.Told.{FilesRead, Lists}

abbrev pub usage_line : List ℕ
usage_line = codes "usage: picatq [--answers N] [--steps N] [--work N] [--mode query|run|session|print|demo] FILE [GOAL]\n"

-- with a program's text and a goal's: the line that says why nothing is run, or the goal was run
pub data ComesText (manner : Manner) (text goal : List ℕ) (runs : Lists) (status : ℕ) (texts : List (List ℕ)) : Type 0 where
  refused : (line : List ℕ) → Refused text goal line → IsLine line 3 status runs.queries texts → ComesText manner text goal runs status texts
  ran : (program : ProgramTree) (of_program : ExpTree) → Asks text goal program of_program →
      HasRan manner program of_program runs status texts → ComesText manner text goal runs status texts

-- with a program's text that is printed: the line of its fault, or the canonical text of the program that it is
pub data ComesPrinted (text : List ℕ) (queries : List QueryRun) (status : ℕ) (texts : List (List ℕ)) : Type 0 where
  faulty : (fault : List ℕ) → IsProgramLine text fault → IsLine (of_program fault) 3 status queries texts → ComesPrinted text queries status texts
  printed : (program : ProgramTree) → IsProgramText text program → IsLine (canonical_text program) 0 status queries texts → ComesPrinted text queries status texts

-- with a program's text, in a mode with a file
abbrev pub ComesOf : RunMode → Options → List ℕ → Lists → ℕ → List (List ℕ) → Type 0
ComesOf Print asked text runs status texts = ComesPrinted text runs.queries status texts
ComesOf other asked text runs status texts = ComesText (manner_of asked) text (goal_of asked) runs status texts

-- with a program that is in a file: a read of it failed, and was the last, or its text was read and none failed
pub data ComesFile (asked : Options) (files : FilesRead) (runs : Lists) (status : ℕ) (texts : List (List ℕ)) : Type 0 where
  read_fault : Rises files.count → FailsReading asked.file files.reads → IsLine read_fault_line 7 status runs.queries texts → ComesFile asked files runs status texts
  was_read : Stands files.count → (text : List ℕ) → ReadsText asked.file text files.reads → IsRead files.held asked.file text → ComesOf asked.mode asked text runs status texts →
      ComesFile asked files runs status texts

-- no file was read
pub record IsUnread (files : FaultCount) (reads : List FileRead) : Type 0 where
  pub stands : Stands files
  pub no_read : reads ≡ []

-- with a program that is made of a number, and no file was read
pub record ComesMade (asked : Options) (files : FaultCount) (reads : List FileRead) (runs : Lists) (status : ℕ) (texts : List (List ℕ)) : Type 0 where
  pub unread : IsUnread files reads
  pub places : ℕ
  pub number : places_of asked ≡ Some places
  pub comes : ComesText (manner_of asked) (demo_program places) (goal_of asked) runs status texts

-- no file was read, and this line is all that is written
pub record IsLineUnread (line : List ℕ) (its : ℕ) (files : FaultCount) (reads : List FileRead) (queries : List QueryRun) (status : ℕ) (texts : List (List ℕ)) : Type 0 where
  pub unread : IsUnread files reads
  pub is : IsLine line its status queries texts

-- in a mode; of a session it is told by `SessionEnds`
abbrev pub ComesIn : RunMode → Options → FilesRead → Lists → ℕ → List (List ℕ) → Type 0
ComesIn Query asked files runs status texts = ComesFile asked files runs status texts
ComesIn Run asked files runs status texts = ComesFile asked files runs status texts
ComesIn Print asked files runs status texts = ComesFile asked files runs status texts
ComesIn Demo asked files runs status texts = ComesMade asked files.count files.reads runs status texts
ComesIn other asked files runs status texts = ⊥

-- by what the words ask: the usage line exactly where that is nothing
abbrev pub ComesBy : Option Options → FilesRead → Lists → ℕ → List (List ℕ) → Type 0
ComesBy None files runs status texts = IsLineUnread usage_line 2 files.count files.reads runs.queries status texts
ComesBy (Some asked) files runs status texts = ComesIn asked.mode asked files runs status texts
