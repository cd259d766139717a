-- Completeness: where nothing fails, a goal that is asked is run to an end of its own, a program that is printed is printed whole, a session's input is read to its end, or memory is wanted.
use Rattle.std.specs.Prelude.{◌≡◌, ◌≢◌, ◌⊎◌, ℕ, List, Option, Some}
use Rattle.pi_outside.specs.Held.{Holding}
use Rattle.pi_outside.specs.Writes.{SinkWrite}
use Rattle.pi_syntax.specs.ExpTree.{ExpTree}
use Rattle.pi_syntax.specs.ProgramTree.{ProgramTree}
use Rattle.pi_print_program.specs.Canonical.{canonical_text}
use Rattle.pi_top.specs.declared.runs.QueryRun.{QueryRun}
use Rattle.pi_top_words.specs.declared.run_mode.RunMode.{RunMode}
use Rattle.pi_top_words.specs.declared.run_mode.RunMode.TheVariants.{Print, Demo}
use Rattle.pi_top_words.specs.declared.asked.Options.{Options}
use Rattle.pi_top.specs.Faults.{FaultCount, Rises}
use Rattle.pi_top.specs.Judged.{IsProgramText, Asks}
use Rattle.pi_top.specs.Manner.{manner_of, goal_of}
use Rattle.pi_top.specs.Runs.{HasRan, HaveWorkLeft}
use Rattle.pi_top.specs.SoleLine.{IsLine}
use Rattle.pi_top.specs.Handing.{Written}
use Rattle.pi_top.specs.Texts.{IsRead}
use Rattle.pi_top.specs.Told.{Lists}
use Rattle.pi_top_words.specs.Words.{options, places_of}
use Rattle.pi_top.specs.Ends.{AsksSession}
use Rattle.pi_top.specs.Demo.{demo_program}

-- the words are those of a command line, neither text has a fault, and neither count of faults rose: that of the files, and that of the sink
pub record NothingFails (words : List (List ℕ)) (asked : Options) (status : ℕ) (files sink : FaultCount) : Type 0 where
  pub asks : options words ≡ Some asked
  pub no_fault : status ≢ 3
  pub no_read_fails : Rises files → ⊥
  pub no_write_fails : Rises sink → ⊥

-- this is the text of the program
abbrev pub IsText : RunMode → Options → Option Holding → List ℕ → Type 0
IsText Demo asked held text = (places : ℕ) × (places_of asked ≡ Some places) × (text ≡ demo_program places)
IsText other asked held text = IsRead held asked.file text

-- The goal was run to its end: its status is 0, 1, 4 or 5, or 6, but not where there was work left.
pub record IsComplete (asked : Options) (held : Option Holding) (runs : Lists) (status : ℕ) (writes : List SinkWrite) : Type 0 where
  pub text : List ℕ
  pub is_text : IsText asked.mode asked held text
  pub program : ProgramTree
  pub of_program : ExpTree
  pub asks : Asks text (goal_of asked) program of_program
  pub ran : Written (HasRan (manner_of asked) program of_program runs status) writes
  pub not_spent : HaveWorkLeft asked.work runs.queries → status ≢ 6

-- the program was printed whole: its status is 0
pub record IsPrinted (asked : Options) (held : Option Holding) (queries : List QueryRun) (status : ℕ) (writes : List SinkWrite) : Type 0 where
  pub text : List ℕ
  pub is_text : IsRead held asked.file text
  pub program : ProgramTree
  pub is_program : IsProgramText text program
  pub printed : Written (IsLine (canonical_text program) 0 status queries) writes

-- in a mode
abbrev pub CompletesIn : RunMode → Options → Option Holding → Lists → ℕ → List SinkWrite → Type 0
CompletesIn Print asked held runs status writes = IsPrinted asked held runs.queries status writes
CompletesIn other asked held runs status writes = IsComplete asked held runs status writes

abbrev pub Completes : Options → Option Holding → Lists → ℕ → List SinkWrite → Type 0
Completes asked held runs status writes = (status ≡ 9) ⊎ CompletesIn asked.mode asked held runs status writes

-- the words ask a session, the program has no fault and the input isn't too long, and no count of faults rose: that of the files, of the input, and of the sink
pub record NothingFailsInSession (words : List (List ℕ)) (asked : Options) (status : ℕ) (files input sink : FaultCount) : Type 0 where
  pub asks : AsksSession (options words) asked
  pub no_fault : status ≢ 3
  pub no_read_fails : Rises files → ⊥
  pub no_input_fails : Rises input → ⊥
  pub no_write_fails : Rises sink → ⊥
