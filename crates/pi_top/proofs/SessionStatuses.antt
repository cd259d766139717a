-- How a session's run ends: its status, and which counts of faults stand at it.
use Rattle.std.proofs.Common.{◌≡◌, ◌≢◌, ◌<◌, ◌⊎◌, ℕ, true, false, List, [], ◌++◌, Option, None, Some, Result, Ok, Err, IfOk, inl, inr, refl, sym, ap, subst, ◌∙◌, true≢false, arith}
use Rattle.std.proofs.lemmas.List.{append-nil}
use Rattle.pi_outside.specs.Held.{Holding}
use Rattle.pi_outside.specs.Inputs.{SourceRead}
use Rattle.pi_outside.specs.Reads.{FileRead}
use Rattle.pi_outside.specs.Writes.{SinkWrite}
use Rattle.pi_syntax.specs.ProgramTree.{ProgramTree}
use Rattle.pi_core.specs.declared.log.LogEntry.{LogEntry}
use Rattle.pi_top_words.specs.declared.run_mode.RunMode.{RunMode}
use Rattle.pi_top_words.specs.declared.run_mode.RunMode.TheVariants.{Query, Run, Session, Print, Demo}
use Rattle.pi_top_words.specs.declared.asked.Options.{Options}
use Rattle.pi_top_words.specs.Words.{options}
use Rattle.pi_top.specs.declared.manner.Manner.{Manner}
use Rattle.pi_top.specs.declared.runs.QueryRun.{QueryRun}
use Rattle.pi_top.specs.declared.query.Stop.{Stop}
use Rattle.pi_top.specs.declared.query.Stop.TheVariants.{Memory, Write}
use Rattle.pi_top.specs.Faults.{FaultCount, counted, Stands, Rises, TellsWrites}
use Rattle.pi_top.specs.Session.{SessionComes, SessionCut}
use Rattle.pi_top.specs.SessionEnds.{SessionText, SessionFile, CutSessionText, CutSessionFile, SessionEnds, AnswersSessionFile}
use Rattle.pi_top.specs.Ends.{is_session, AsksNoSession, AsksSession, GivesStatus}
use Rattle.pi_top.specs.Completeness.{NothingFailsInSession}
use Rattle.pi_top.proofs.EndStatuses.{CountsTell}
use Rattle.pi_top.specs.Told.{files_read, input_read, lists, sink_written}

-- what was answered, and then its status: the sink's count between both is that behind the first
pub session-given : (asked : Options) (held : Option Holding) (most : ℕ) (files input : FaultCount) (queries : List QueryRun) (r : Result ℕ Stop) (status sink0 sink1 sink2 : ℕ)
    (reads : List FileRead) (inputs : List SourceRead) (first second : List SinkWrite) → TellsWrites sink0 sink1 r → AnswersSessionFile asked (files_read held files reads) (input_read most input inputs) (lists queries []) r first →
    GivesStatus r status (counted sink1 sink2) second → SessionEnds asked (files_read held files reads) (input_read most input inputs) (lists queries []) status (sink_written (counted sink0 sink2) (first ++ second))
session-given asked held most files input queries (Ok given) status sink0 sink1 sink2 reads inputs first second tells ends gives =
    SessionEnds.all_written (gives.1 ∙ tells.no_fault) (rw (gives.0, gives.2, append-nil first) ends)
session-given asked held most files input queries (Err Write) status sink0 sink1 sink2 reads inputs first second tells ends gives =
    SessionEnds.write_failed gives.0 (rw gives.1 (tells.write refl)) (rw (gives.0, gives.2, append-nil first) ends)
session-given asked held most files input queries (Err Memory) status sink0 sink1 sink2 reads inputs first second tells ends gives =
    SessionEnds.memory_wanted gives.0 first second refl (rw gives.0 ends) (rw (← tells.memory refl) gives.1)

-- where the status is 0, it was answered
pub was-zero : (r : Result ℕ Stop) (status : ℕ) (sink : FaultCount) (writes : List SinkWrite) (P : Type 0) → status ≡ 0 → GivesStatus r status sink writes → IfOk r (λ given. given ≡ 0 → P) → P
was-zero (Ok given) status sink writes P is_zero gives ok = ok (sym gives.0 ∙ is_zero)
was-zero (Err Write) status sink writes P is_zero gives ok = absurd (omega (arith, gives.0, is_zero))
was-zero (Err Memory) status sink writes P is_zero gives ok = absurd (omega (arith, gives.0, is_zero))

-- ---- which counts stand

-- with 7 a read failed, and with each other status none did
record InputTells (input : FaultCount) (status : ℕ) : Type 0 where
  pub below : status < 8
  pub failed : status ≡ 7 → Rises input
  pub well : status ≢ 7 → Stands input

comes-tell : (manner : Manner) (program : ProgramTree) (log : List LogEntry) (most : ℕ) (input : FaultCount) (queries : List QueryRun) (status : ℕ) (inputs : List SourceRead) (writes : List SinkWrite) →
    SessionComes manner program (input_read most input inputs) (lists queries log) status writes → InputTells input status
comes-tell manner program log most input queries status inputs writes (SessionComes.to_its_end at_end stands its its_writes served line next meets serves) =
    record { below = omega (arith, at_end); failed = λ seven. absurd (omega (arith, at_end, seven)); well = λ other. stands }
comes-tell manner program log most input queries status inputs writes (SessionComes.past_limit three stands its its_writes served passes same handed) =
    record { below = omega (arith, three); failed = λ seven. absurd (omega (arith, three, seven)); well = λ other. stands }
comes-tell manner program log most input queries status inputs writes (SessionComes.read_fault seven rises its its_writes served fails same handed) =
    record { below = omega (arith, seven); failed = λ same_status. rises; well = λ other. absurd (other seven) }

text-tells : (asked : Options) (text : List ℕ) (most : ℕ) (input : FaultCount) (queries : List QueryRun) (log : List LogEntry) (status : ℕ) (inputs : List SourceRead) (writes : List SinkWrite) →
    SessionText asked text (input_read most input inputs) (lists queries log) status writes → InputTells input status
text-tells asked text most input queries log status inputs writes (SessionText.refused untouched line is written) =
    let three : status ≡ 3 = written.comes.is_its in
    record { below = omega (arith, three); failed = λ seven. absurd (omega (arith, three, seven)); well = λ other. untouched.stands }
text-tells asked text most input queries log status inputs writes (SessionText.served program ready comes) = comes-tell _ program log most input queries status inputs writes comes

record FileTells (files input : FaultCount) (status : ℕ) : Type 0 where
  pub below : status < 8
  pub failed : status ≡ 7 → Rises files ⊎ Rises input
  pub well : status ≢ 7 → Stands files × Stands input

file-tells : (asked : Options) (held : Option Holding) (most : ℕ) (files input : FaultCount) (queries : List QueryRun) (log : List LogEntry) (status : ℕ) (reads : List FileRead) (inputs : List SourceRead) (writes : List SinkWrite) →
    SessionFile asked (files_read held files reads) (input_read most input inputs) (lists queries log) status writes → FileTells files input status
file-tells asked held most files input queries log status reads inputs writes (SessionFile.read_fault rises fails untouched written) =
    let seven : status ≡ 7 = written.comes.is_its in
    record { below = omega (arith, seven); failed = λ same. inl rises; well = λ other. absurd (other seven) }
file-tells asked held most files input queries log status reads inputs writes (SessionFile.was_read text was comes) =
    let told : InputTells input status = text-tells asked text most input queries log status inputs writes comes in
    record { below = told.below; failed = λ seven. inr (told.failed seven); well = λ other. (was.stands, told.well other) }

-- where memory was wanted no read failed
cut-stands : (manner : Manner) (program : ProgramTree) (log : List LogEntry) (most : ℕ) (input : FaultCount) (queries : List QueryRun) (status : ℕ) (inputs : List SourceRead) (writes : List SinkWrite) → status ≢ 8 →
    SessionCut manner program (input_read most input inputs) (lists queries log) status writes → Stands input
cut-stands manner program log most input queries status inputs writes other (SessionCut.while_reading nine stands its served stops same) = stands
cut-stands manner program log most input queries status inputs writes other (SessionCut.at_a_line stands its its_writes served line after finds is) = stands
cut-stands manner program log most input queries status inputs writes other (SessionCut.at_its_end stands its its_writes served line meets is) = stands
cut-stands manner program log most input queries status inputs writes other (SessionCut.past_limit eight stands its its_writes served passes same fails) = stands
cut-stands manner program log most input queries status inputs writes other (SessionCut.read_fault eight rises its its_writes served fails same is) = absurd (other eight)

text-stands : (asked : Options) (text : List ℕ) (most : ℕ) (input : FaultCount) (queries : List QueryRun) (log : List LogEntry) (status : ℕ) (inputs : List SourceRead) (writes : List SinkWrite) → status ≢ 8 →
    CutSessionText asked text (input_read most input inputs) (lists queries log) status writes → Stands input
text-stands asked text most input queries log status inputs writes other (CutSessionText.nothing untouched is) = untouched.stands
text-stands asked text most input queries log status inputs writes other (CutSessionText.refused untouched line is front) = untouched.stands
text-stands asked text most input queries log status inputs writes other (CutSessionText.serving program ready cut) = cut-stands _ program log most input queries status inputs writes other cut

file-stands : (asked : Options) (held : Option Holding) (most : ℕ) (files input : FaultCount) (queries : List QueryRun) (log : List LogEntry) (status : ℕ) (reads : List FileRead) (inputs : List SourceRead) (writes : List SinkWrite) →
    status ≢ 8 → CutSessionFile asked (files_read held files reads) (input_read most input inputs) (lists queries log) status writes → Stands files × Stands input
file-stands asked held most files input queries log status reads inputs writes other (CutSessionFile.nothing stands stops untouched is) = (stands, untouched.stands)
file-stands asked held most files input queries log status reads inputs writes other (CutSessionFile.read_fault rises fails untouched front) = absurd (other front.write)
file-stands asked held most files input queries log status reads inputs writes other (CutSessionFile.was_read text was cut) =
    (was.stands, text-stands asked text most input queries log status inputs writes other cut)

-- ---- what a run's end says of the counts

pub record AllTell (status : ℕ) (files input sink : FaultCount) : Type 0 where
  pub read_fault : status ≡ 7 → Rises files ⊎ Rises input
  pub reads_well : status ≢ 7 → status ≢ 8 → Stands files × Stands input
  pub write_fault : status ≡ 8 → Rises sink
  pub writes_well : status ≢ 8 → status ≢ 9 → Stands sink

pub session-tells : (asked : Options) (held : Option Holding) (most : ℕ) (queries : List QueryRun) (log : List LogEntry) (status : ℕ) (files input sink : FaultCount) (reads : List FileRead) (inputs : List SourceRead) (writes : List SinkWrite) →
    SessionEnds asked (files_read held files reads) (input_read most input inputs) (lists queries log) status (sink_written sink writes) → AllTell status files input sink
session-tells asked held most queries log status files input sink reads inputs writes (SessionEnds.all_written stands is) =
    let told : FileTells files input status = file-tells asked held most files input queries log status reads inputs writes is in
    record {
      read_fault = told.failed;
      reads_well = λ no_seven no_eight. told.well no_seven;
      write_fault = λ eight. absurd (omega (arith, told.below, eight));
      writes_well = λ no_eight no_nine. stands;
    }
session-tells asked held most queries log status files input sink reads inputs writes (SessionEnds.write_failed eight rose is) = record {
  read_fault = λ seven. absurd (omega (arith, eight, seven));
  reads_well = λ no_seven no_eight. absurd (no_eight eight);
  write_fault = λ same. rose;
  writes_well = λ no_eight no_nine. absurd (no_eight eight);
}
session-tells asked held most queries log status files input sink reads inputs writes (SessionEnds.memory_wanted nine earlier line split is written) = record {
  read_fault = λ seven. absurd (omega (arith, nine, seven));
  reads_well = λ no_seven no_eight. file-stands asked held most files input queries log status reads inputs earlier no_eight is;
  write_fault = λ eight. absurd (omega (arith, nine, eight));
  writes_well = λ no_eight no_nine. absurd (no_nine nine);
}

-- ---- a session or none

-- whether words ask one
data Whether (words : Option Options) : Type 0 where
  no_session : AsksNoSession words → Whether words
  a_session : (asked : Options) → AsksSession words asked → Whether words

in-mode : (asked : Options) (mode : RunMode) → asked.mode ≡ mode → Whether (Some asked)
in-mode asked Query is = no_session (ap is_session is)
in-mode asked Run is = no_session (ap is_session is)
in-mode asked Session is = a_session asked (record { asks = refl; in_mode = is })
in-mode asked Print is = no_session (ap is_session is)
in-mode asked Demo is = no_session (ap is_session is)

whether : (words : Option Options) → Whether words
whether None = no_session tt
whether (Some asked) = in-mode asked asked.mode refl

told-from : (words : Option Options) (status : ℕ) (files input sink : FaultCount) → Whether words → (AsksNoSession words → CountsTell status files sink) → (AsksNoSession words → Stands input) →
    ((asked : Options) → AsksSession words asked → AllTell status files input sink) → AllTell status files input sink
told-from words status files input sink (no_session without) counts stands session = record {
  read_fault = λ seven. inl ((counts without).read_fault seven);
  reads_well = λ no_seven no_eight. ((counts without).reads_well no_seven no_eight, stands without);
  write_fault = (counts without).write_fault;
  writes_well = (counts without).writes_well;
}
told-from words status files input sink (a_session asked is) counts stands session = session asked is

-- by both
pub told-by : (words : Option Options) (status : ℕ) (files input sink : FaultCount) → (AsksNoSession words → CountsTell status files sink) → (AsksNoSession words → Stands input) →
    ((asked : Options) → AsksSession words asked → AllTell status files input sink) → AllTell status files input sink
told-by words status files input sink counts stands session = told-from words status files input sink (whether words) counts stands session

-- words that ask something else ask no session
pub none-asks : {X : Type 0} (words : Option Options) (asked : Options) → words ≡ None → AsksSession words asked → X
none-asks words asked none is =
    let some : ◌≡◌ {A = Option Options} None (Some asked) = sym none ∙ is.asks in
    absurd (cc)

pub other-asks : {X : Type 0} (words : Option Options) (asked other : Options) (mode : RunMode) → words ≡ Some asked → asked.mode ≡ mode → is_session mode ≡ false → AsksSession words other → X
other-asks words asked other mode asks in_mode not_one is =
    let some : Some asked ≡ Some other = sym asks ∙ is.asks in
    let same : asked ≡ other = cc in
    let session : is_session asked.mode ≡ true = ap (λ (o : Options). is_session o.mode) same ∙ ap is_session is.in_mode in
    let none : is_session asked.mode ≡ false = ap is_session in_mode ∙ not_one in
    absurd (true≢false (sym session ∙ none))

pub is-asked : {X : Type 0} (words : Option Options) (asked : Options) → words ≡ Some asked → asked.mode ≡ Session → AsksNoSession words → X
is-asked words asked asks in_mode none =
    let no : is_session asked.mode ≡ false = subst AsksNoSession asks none in
    absurd (true≢false (sym (ap is_session in_mode) ∙ no))

-- what this one answers is what those that are asked answer
pub asks-this : (words : List (List ℕ)) (asked other : Options) (held : Option Holding) (most : ℕ) (files input : FaultCount) (queries : List QueryRun) (r : Result ℕ Stop) (reads : List FileRead) (inputs : List SourceRead) (writes : List SinkWrite) →
    options words ≡ Some asked → AsksSession (options words) other → AnswersSessionFile asked (files_read held files reads) (input_read most input inputs) (lists queries []) r writes → AnswersSessionFile other (files_read held files reads) (input_read most input inputs) (lists queries []) r writes
asks-this words asked other held most files input queries r reads inputs writes asks is answers =
    let some : Some asked ≡ Some other = sym asks ∙ is.asks in
    let same : asked ≡ other = cc in
    subst (λ (o : Options). AnswersSessionFile o (files_read held files reads) (input_read most input inputs) (lists queries []) r writes) same answers

-- ---- where nothing fails

comes-whole : (manner : Manner) (program : ProgramTree) (log : List LogEntry) (most : ℕ) (input : FaultCount) (queries : List QueryRun) (status : ℕ) (inputs : List SourceRead) (writes : List SinkWrite) → status ≢ 3 →
    (Rises input → ⊥) → SessionComes manner program (input_read most input inputs) (lists queries log) status writes → status ≡ 0
comes-whole manner program log most input queries status inputs writes no_three no_fault (SessionComes.to_its_end at_end stands its its_writes served line next meets serves) = at_end
comes-whole manner program log most input queries status inputs writes no_three no_fault (SessionComes.past_limit three stands its its_writes served passes same handed) = absurd (no_three three)
comes-whole manner program log most input queries status inputs writes no_three no_fault (SessionComes.read_fault seven rises its its_writes served fails same handed) = absurd (no_fault rises)

text-whole : (asked : Options) (text : List ℕ) (most : ℕ) (input : FaultCount) (queries : List QueryRun) (log : List LogEntry) (status : ℕ) (inputs : List SourceRead) (writes : List SinkWrite) → status ≢ 3 →
    (Rises input → ⊥) → SessionText asked text (input_read most input inputs) (lists queries log) status writes → status ≡ 0
text-whole asked text most input queries log status inputs writes no_three no_fault (SessionText.refused untouched line is written) = absurd (no_three written.comes.is_its)
text-whole asked text most input queries log status inputs writes no_three no_fault (SessionText.served program ready comes) =
    comes-whole _ program log most input queries status inputs writes no_three no_fault comes

file-whole : (asked : Options) (held : Option Holding) (most : ℕ) (files input : FaultCount) (queries : List QueryRun) (log : List LogEntry) (status : ℕ) (reads : List FileRead) (inputs : List SourceRead) (writes : List SinkWrite) →
    status ≢ 3 → (Rises files → ⊥) → (Rises input → ⊥) → SessionFile asked (files_read held files reads) (input_read most input inputs) (lists queries log) status writes → status ≡ 0
file-whole asked held most files input queries log status reads inputs writes no_three no_read no_fault (SessionFile.read_fault rises fails untouched written) = absurd (no_read rises)
file-whole asked held most files input queries log status reads inputs writes no_three no_read no_fault (SessionFile.was_read text was comes) =
    text-whole asked text most input queries log status inputs writes no_three no_fault comes

pub session-whole : (words : List (List ℕ)) (asked : Options) (held : Option Holding) (most : ℕ) (queries : List QueryRun) (log : List LogEntry) (status : ℕ) (files input sink : FaultCount) (reads : List FileRead) (inputs : List SourceRead) (writes : List SinkWrite) →
    SessionEnds asked (files_read held files reads) (input_read most input inputs) (lists queries log) status (sink_written sink writes) → NothingFailsInSession words asked status files input sink → (status ≡ 0) ⊎ (status ≡ 9)
session-whole words asked held most queries log status files input sink reads inputs writes (SessionEnds.all_written stands is) none =
    inl (file-whole asked held most files input queries log status reads inputs writes none.no_fault none.no_read_fails none.no_input_fails is)
session-whole words asked held most queries log status files input sink reads inputs writes (SessionEnds.write_failed eight rose is) none = absurd (none.no_write_fails rose)
session-whole words asked held most queries log status files input sink reads inputs writes (SessionEnds.memory_wanted nine earlier line split is written) none = inr nine
