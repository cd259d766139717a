-- How a run ends, by its words, where they ask no session.
use Rattle.std.specs.Prelude.{◌≡◌, ℕ, Bool, true, false, List, [], ◌++◌, Option, None, Some, Result, Ok, Err}
use Rattle.pi_outside.specs.Reads.{FileRead}
use Rattle.pi_outside.specs.Writes.{SinkWrite}
use Rattle.pi_top.specs.declared.runs.QueryRun.{QueryRun}
use Rattle.pi_top.specs.declared.query.Stop.{Stop}
use Rattle.pi_top.specs.declared.query.Stop.TheVariants.{Memory, Write}
use Rattle.pi_top_words.specs.declared.run_mode.RunMode.{RunMode}
use Rattle.pi_top_words.specs.declared.run_mode.RunMode.TheVariants.{Query, Run, Session, Print}
use Rattle.pi_top_words.specs.declared.asked.Options.{Options}
use Rattle.pi_top.specs.declared.manner.Manner.{Manner}
use Rattle.pi_top.specs.CutOff.{CutText, CutPrinted, CutOf, CutFile, CutMade, CutBy}
use Rattle.pi_top.specs.Faults.{FaultCount, Stands, Rises}
use Rattle.pi_top.specs.Handing.{Written}
use Rattle.pi_top.specs.Statuses.{ComesText, ComesPrinted, ComesOf, ComesFile, ComesMade, ComesBy}
use Rattle.pi_top.specs.Stops.{status_of_stop, WritesMemory}
use Rattle.pi_top.specs.Told.{FilesRead, SinkWritten, Lists}
use Rattle.pi_top_words.specs.Words.{options}

-- By these reads and these writes, and no others, a run came to its end. All is written that there is to write, and no write failed; or one
-- failed, and was the last, and none of the line on want of memory; or memory was wanted, and that line is written, or a front of it where
-- its write failed, behind what was written until then, of which no write failed.
pub data Ends (words : List (List ℕ)) (files : FilesRead) (runs : Lists) (status : ℕ) (sink : SinkWritten) : Type 0 where
  all_written : Stands sink.count → Written (ComesBy (options words) files runs status) sink.writes → Ends words files runs status sink
  write_failed : status ≡ 8 → Rises sink.count → CutBy (options words) files runs status sink.writes → Ends words files runs status sink
  memory_wanted : status ≡ 9 → (earlier line : List SinkWrite) → sink.writes ≡ earlier ++ line → CutBy (options words) files runs status earlier → WritesMemory sink.count line →
      Ends words files runs status sink

-- the words ask no session
abbrev pub is_session : RunMode → Bool
is_session Session = true
is_session other = false

abbrev pub AsksNoSession : Option Options → Type 0
AsksNoSession None = Unit {0}
AsksNoSession (Some asked) = is_session asked.mode ≡ false

-- they ask this one
pub record AsksSession (words : Option Options) (asked : Options) : Type 0 where
  pub asks : words ≡ Some asked
  pub in_mode : asked.mode ≡ Session

-- the program is in a file
abbrev pub reads_file : RunMode → Bool
reads_file Query = true
reads_file Run = true
reads_file Print = true
reads_file Session = true
reads_file other = false

-- what the words ask reads no file
abbrev pub ReadsNoFile : Option Options → Type 0
ReadsNoFile None = Unit {0}
ReadsNoFile (Some asked) = reads_file asked.mode ≡ false

-- ---- the same of the parts of a run, by what they answer

abbrev pub AnswersText : Manner → List ℕ → List ℕ → Lists → Result ℕ Stop → List SinkWrite → Type 0
AnswersText manner text goal runs (Ok status) writes = Written (ComesText manner text goal runs status) writes
AnswersText manner text goal runs (Err stop) writes = CutText manner text goal runs (status_of_stop stop) writes

abbrev pub AnswersPrinted : List ℕ → List QueryRun → Result ℕ Stop → List SinkWrite → Type 0
AnswersPrinted text queries (Ok status) writes = Written (ComesPrinted text queries status) writes
AnswersPrinted text queries (Err stop) writes = CutPrinted text queries (status_of_stop stop) writes

abbrev pub AnswersOf : RunMode → Options → List ℕ → Lists → Result ℕ Stop → List SinkWrite → Type 0
AnswersOf mode asked text runs (Ok status) writes = Written (ComesOf mode asked text runs status) writes
AnswersOf mode asked text runs (Err stop) writes = CutOf mode asked text runs (status_of_stop stop) writes

abbrev pub AnswersFile : Options → FilesRead → Lists → Result ℕ Stop → List SinkWrite → Type 0
AnswersFile asked files runs (Ok status) writes = Written (ComesFile asked files runs status) writes
AnswersFile asked files runs (Err stop) writes = CutFile asked files runs (status_of_stop stop) writes

abbrev pub AnswersMade : Options → FaultCount → List FileRead → Lists → Result ℕ Stop → List SinkWrite → Type 0
AnswersMade asked files reads runs (Ok status) writes = Written (ComesMade asked files reads runs status) writes
AnswersMade asked files reads runs (Err stop) writes = CutMade asked files reads runs (status_of_stop stop) writes

abbrev pub AnswersBy : Option Options → FilesRead → Lists → Result ℕ Stop → List SinkWrite → Type 0
AnswersBy asked files runs (Ok status) writes = Written (ComesBy asked files runs status) writes
AnswersBy asked files runs (Err stop) writes = CutBy asked files runs (status_of_stop stop) writes

-- the status of what was answered; where memory was wanted a line, or its front, is written
abbrev pub GivesStatus : Result ℕ Stop → ℕ → FaultCount → List SinkWrite → Type 0
GivesStatus (Ok given) status sink writes = (status ≡ given) × Stands sink × (writes ≡ [])
GivesStatus (Err Write) status sink writes = (status ≡ 8) × Stands sink × (writes ≡ [])
GivesStatus (Err Memory) status sink writes = (status ≡ 9) × WritesMemory sink writes
