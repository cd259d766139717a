-- How a session ends, from what its parts wrote and answered.
use Rattle.std.proofs.Common.{◌≡◌, ℕ, List, [], ◌∷◌, Option, Result, Ok, Err, IfOk, IfErr, refl}
use Rattle.pi_outside.specs.Held.{Holding}
use Rattle.pi_outside.specs.Inputs.{SourceRead}
use Rattle.pi_outside.specs.Reads.{FileRead}
use Rattle.pi_outside.specs.Writes.{SinkWrite}
use Rattle.pi_syntax.specs.ProgramTree.{ProgramTree}
use Rattle.pi_top_words.specs.declared.asked.Options.{Options}
use Rattle.pi_top.specs.declared.runs.QueryRun.{QueryRun}
use Rattle.pi_top.specs.declared.query.Stop.{Stop}
use Rattle.pi_top.specs.declared.query.Stop.TheVariants.{Write}
use Rattle.pi_top.specs.Asking.{IsReady, IsUnready}
use Rattle.pi_top.specs.Faults.{FaultCount, Stands, Rises}
use Rattle.pi_top.specs.Manner.{as_asked}
use Rattle.pi_top.specs.Reading.{ReadsText, FailsReading, StopsReading, nothing as nothing_read}
use Rattle.pi_top.specs.SessionCode.{AnswersSession}
use Rattle.pi_top.specs.SessionEnds.{IsUntouched, SessionText, SessionFile, CutSessionText, CutSessionFile, AnswersSessionText, AnswersSessionFile}
use Rattle.pi_top.specs.SoleLine.{read_fault_line}
use Rattle.pi_top.specs.Texts.{IsRead}
use Rattle.pi_top.specs.Writing.{Writes}
use Rattle.pi_top.proofs.SoleLines.{line-all, line-front, is-nothing}
use Rattle.pi_top.specs.Told.{files_read, input_read, lists}

untouched : (input : FaultCount) → Stands input → IsUntouched input []
untouched input stands = record { stands = stands; no_read = refl }

-- ---- with a program's text

pub text-unready : (asked : Options) (text line : List ℕ) (most : ℕ) (input : FaultCount) (queries : List QueryRun) (r : Result ℕ Stop) (writes : List SinkWrite) → IsUnready text line → Stands input → queries ≡ [] →
    IfOk r (λ given. given ≡ 3) → IfErr r (λ stop. stop ≡ Write) → Writes (line ∷ []) r writes → AnswersSessionText asked text (input_read most input []) (lists queries []) r writes
text-unready asked text line most input queries (Ok status) writes is stands none three stops written =
    SessionText.refused (untouched input stands) line is (line-all line 3 status queries writes none three written.all)
text-unready asked text line most input queries (Err stop) writes is stands none three stops written =
    CutSessionText.refused (untouched input stands) line is (line-front line stop queries writes none stops written.cut)

pub text-nothing : (asked : Options) (text : List ℕ) (most : ℕ) (input : FaultCount) (queries : List QueryRun) → Stands input → queries ≡ [] → CutSessionText asked text (input_read most input []) (lists queries []) 9 []
text-nothing asked text most input queries stands none = CutSessionText.nothing (untouched input stands) (is-nothing queries none)

pub text-served : (asked : Options) (text : List ℕ) (most : ℕ) (input : FaultCount) (queries : List QueryRun) (program : ProgramTree) (r : Result ℕ Stop) (inputs : List SourceRead) (writes : List SinkWrite) → IsReady text program →
    AnswersSession (as_asked asked) program (input_read most input inputs) queries r writes → AnswersSessionText asked text (input_read most input inputs) (lists queries []) r writes
text-served asked text most input queries program (Ok status) inputs writes ready comes = SessionText.served program ready comes
text-served asked text most input queries program (Err stop) inputs writes ready comes = CutSessionText.serving program ready comes

-- ---- with a program that is in a file

pub file-fault : (asked : Options) (held : Option Holding) (most : ℕ) (files input : FaultCount) (queries : List QueryRun) (r : Result ℕ Stop) (reads : List FileRead) (writes : List SinkWrite) → Rises files →
    FailsReading asked.file reads → Stands input → queries ≡ [] → IfOk r (λ given. given ≡ 7) → IfErr r (λ stop. stop ≡ Write) → Writes (read_fault_line ∷ []) r writes →
    AnswersSessionFile asked (files_read held files reads) (input_read most input []) (lists queries []) r writes
file-fault asked held most files input queries (Ok status) reads writes rises fails stands none seven stops written =
    SessionFile.read_fault rises fails (untouched input stands) (line-all read_fault_line 7 status queries writes none seven written.all)
file-fault asked held most files input queries (Err stop) reads writes rises fails stands none seven stops written =
    CutSessionFile.read_fault rises fails (untouched input stands) (line-front read_fault_line stop queries writes none stops written.cut)

pub file-nothing : (asked : Options) (held : Option Holding) (most : ℕ) (files input : FaultCount) (queries : List QueryRun) (reads : List FileRead) → Stands files → StopsReading asked.file reads → Stands input →
    queries ≡ [] → CutSessionFile asked (files_read held files reads) (input_read most input []) (lists queries []) 9 []
file-nothing asked held most files input queries reads stood some_read stands none = CutSessionFile.nothing stood some_read (untouched input stands) (is-nothing queries none)

-- memory is wanted before any read of it
pub file-unread : (asked : Options) (held : Option Holding) (most : ℕ) (files input : FaultCount) (queries : List QueryRun) → Stands files → Stands input → queries ≡ [] →
    CutSessionFile asked (files_read held files []) (input_read most input []) (lists queries []) 9 []
file-unread asked held most files input queries stood stands none = file-nothing asked held most files input queries [] stood (record { text = []; read = nothing_read }) stands none

pub file-read : (asked : Options) (held : Option Holding) (most : ℕ) (files input : FaultCount) (text : List ℕ) (queries : List QueryRun) (r : Result ℕ Stop) (reads : List FileRead) (inputs : List SourceRead) (writes : List SinkWrite) →
    Stands files → ReadsText asked.file text reads → IsRead held asked.file text → AnswersSessionText asked text (input_read most input inputs) (lists queries []) r writes →
    AnswersSessionFile asked (files_read held files reads) (input_read most input inputs) (lists queries []) r writes
file-read asked held most files input text queries (Ok status) reads inputs writes stands all_read read ends =
    SessionFile.was_read text (record { stands = stands; reads_text = all_read; is_read = read }) ends
file-read asked held most files input text queries (Err stop) reads inputs writes stands all_read read ends =
    CutSessionFile.was_read text (record { stands = stands; reads_text = all_read; is_read = read }) ends
