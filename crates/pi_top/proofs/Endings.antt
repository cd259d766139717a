-- How a run ends, from what its parts wrote and answered.
use Rattle.std.proofs.Common.{◌≡◌, ℕ, true, false, List, [], ◌∷◌, Option, None, Some, Result, Ok, Err, IfOk, IfErr, refl, sym, ap, subst, ◌∙◌, true≢false, Bool}
use Rattle.pi_outside.specs.Held.{Holding}
use Rattle.pi_outside.specs.Reads.{FileRead}
use Rattle.pi_outside.specs.Writes.{SinkWrite}
use Rattle.pi_core.specs.CoreTree.{PredTree, QueryTree}
use Rattle.pi_syntax.specs.ExpTree.{ExpTree}
use Rattle.pi_syntax.specs.ProgramTree.{ProgramTree}
use Rattle.pi_print_program.specs.Canonical.{canonical_text}
use Rattle.pi_top.specs.declared.manner.Manner.{Manner}
use Rattle.pi_top.specs.declared.runs.QueryRun.{QueryRun}
use Rattle.pi_top.specs.declared.query.Stop.{Stop}
use Rattle.pi_top.specs.declared.query.Stop.TheVariants.{Memory, Write}
use Rattle.pi_top_words.specs.declared.run_mode.RunMode.{RunMode}
use Rattle.pi_top_words.specs.declared.run_mode.RunMode.TheVariants.{Query, Run, Session, Print, Demo}
use Rattle.pi_top_words.specs.declared.asked.Options.{Options}
use Rattle.pi_top.specs.Stops.{status_of_stop}
use Rattle.pi_top.specs.CutOff.{CutText, CutPrinted, CutFile, CutMade, CutLine, CutIn, CutBy, running, front_of}
use Rattle.pi_top.specs.CutOff as cut
use Rattle.pi_top.specs.Ends.{is_session, AsksNoSession, reads_file, ReadsNoFile, AnswersText, AnswersPrinted, AnswersOf, AnswersFile, AnswersMade, AnswersBy}
use Rattle.pi_top.specs.Faults.{FaultCount, Stands, Rises}
use Rattle.pi_top.specs.Handing.{HandsAll, Written}
use Rattle.pi_top.specs.Headline.{Headline}
use Rattle.pi_top.specs.FaultLines.{of_program}
use Rattle.pi_top.specs.Judged.{Refused}
use Rattle.pi_top.specs.JudgedCode.{IsAsked}
use Rattle.pi_top.specs.PrintedCode.{IsCanonical, IsFaulty}
use Rattle.pi_top.specs.Demo.{demo_program}
use Rattle.pi_top.specs.Manner.{manner_of, goal_of}
use Rattle.pi_top.specs.Reading.{ReadsText, FailsReading, StopsReading, nothing as nothing_read}
use Rattle.pi_top.specs.Running.{HasRun, not_asked, was_asked}
use Rattle.pi_top.specs.Runs.{HasRan, run_of}
use Rattle.pi_top.specs.Statuses as whole
use Rattle.pi_top.specs.SoleLine.{read_fault_line}
use Rattle.pi_top.specs.Statuses.{ComesIn, IsUnread, ran, usage_line}
use Rattle.pi_top.specs.Texts.{IsRead}
use Rattle.pi_top_words.specs.Words.{options, places_of}
use Rattle.pi_top.specs.Writing.{Writes}
use Rattle.pi_top.proofs.OverNames.{ends-over-names, cut-over-names}
use Rattle.pi_top.proofs.SoleLines.{line-all, line-front, is-nothing}
use Rattle.pi_top.specs.Told.{files_read, lists}
use Rattle.pi_top.specs.Took.{Took}
use Rattle.pi_top.specs.QueryWords.{asked_in}

-- what is written of a greater thing
widens : {P Q : List (List ℕ) → Type 0} (writes : List SinkWrite) → ((texts : List (List ℕ)) → P texts → Q texts) → Written P writes → Written Q writes
widens writes f w = record { texts = w.texts; comes = f w.texts w.comes; handed = w.handed }

-- ---- with two texts

pub text-refused : (manner : Manner) (text goal line : List ℕ) (queries : List QueryRun) (r : Result ℕ Stop) (writes : List SinkWrite) → Refused text goal line → queries ≡ [] →
    IfOk r (λ given. given ≡ 3) → IfErr r (λ stop. stop ≡ Write) → Writes (line ∷ []) r writes → AnswersText manner text goal (lists queries []) r writes
text-refused manner text goal line queries (Ok status) writes is none three stops written =
    widens writes (λ texts comes. whole.refused line is comes) (line-all line 3 status queries writes none three written.all)
text-refused manner text goal line queries (Err stop) writes is none three stops written =
    cut.refused line is (line-front line stop queries writes none stops written.cut)

-- nothing was written yet
pub text-nothing : (manner : Manner) (text goal : List ℕ) (queries : List QueryRun) → queries ≡ [] → CutText manner text goal (lists queries []) 9 []
text-nothing manner text goal queries none = cut.nothing (is-nothing queries none)

-- a goal was run
has-ran : (manner : Manner) (took : Took) (is : ProgramTree) (goal : ExpTree) (queries : List QueryRun) (status : ℕ) (writes : List SinkWrite) → queries ≡ run_of took ∷ [] →
    Written (Headline manner is goal [] took status) writes → Written (HasRan manner is goal (lists queries []) status) writes
has-ran manner took is goal queries status writes listed w =
    widens writes (λ texts headline. record { took = took; listed = listed; headline = headline }) w

pub text-ran : (manner : Manner) (text goal : List ℕ) (program : List PredTree) (q : QueryTree) (old new : List QueryRun) (r : Result ℕ Stop) (writes : List SinkWrite) →
    old ≡ [] → IsAsked text goal program q → HasRun (asked_in manner program q) old new r writes → AnswersText manner text goal (lists new []) r writes
text-ran manner text goal program q old new (Ok status) writes none is (not_asked memory listed nothing) = absurd (cc)
text-ran manner text goal program q old new (Ok status) writes none is (was_asked has) =
    widens writes (λ texts comes. ran is.source is.asked is.asks comes)
    (has-ran manner has.took is.source is.asked new status writes (rw none at has.listed)
    (ends-over-names manner is.source is.asked program q has.took status writes is.lowered.runs has.comes))
text-ran manner text goal program q old new (Err stop) writes none is (not_asked memory listed nothing) =
    let want : stop ≡ Memory = cc in
    cut.nothing (record { memory = rw want refl; none_asked = listed ∙ none; nothing = nothing })
text-ran manner text goal program q old new (Err stop) writes none is (was_asked has) = running is.source is.asked is.asks (record {
  took = has.took;
  listed = rw none at has.listed;
  within = has.within;
  cut = cut-over-names manner is.source is.asked program q has.took (status_of_stop stop) writes is.lowered.runs has.comes;
})

-- ---- with a text that is printed

pub printed-nothing : (text : List ℕ) (queries : List QueryRun) → queries ≡ [] → CutPrinted text queries 9 []
printed-nothing text queries none = cut.nothing (is-nothing queries none)

pub printed-faulty : (text line : List ℕ) (queries : List QueryRun) (r : Result ℕ Stop) (writes : List SinkWrite) → IsFaulty text line → queries ≡ [] →
    IfOk r (λ given. given ≡ 3) → IfErr r (λ stop. stop ≡ Write) → Writes (line ∷ []) r writes → AnswersPrinted text queries r writes
printed-faulty text line queries (Ok status) writes is none three stops written =
    widens writes (λ texts comes. whole.faulty is.fault is.is_fault comes) (line-all (of_program is.fault) 3 status queries writes none three (rw is.is at written.all))
printed-faulty text line queries (Err stop) writes is none three stops written =
    cut.faulty is.fault is.is_fault (line-front (of_program is.fault) stop queries writes none stops (rw is.is at written.cut))

pub printed-whole : (text shown : List ℕ) (queries : List QueryRun) (r : Result ℕ Stop) (writes : List SinkWrite) → IsCanonical text shown → queries ≡ [] →
    IfOk r (λ given. given ≡ 0) → IfErr r (λ stop. stop ≡ Write) → Writes (shown ∷ []) r writes → AnswersPrinted text queries r writes
printed-whole text shown queries (Ok status) writes is none zero stops written =
    widens writes (λ texts comes. whole.printed is.program is.is_program comes) (line-all (canonical_text is.program) 0 status queries writes none zero (rw is.is at written.all))
printed-whole text shown queries (Err stop) writes is none zero stops written =
    cut.printing is.program is.is_program (line-front (canonical_text is.program) stop queries writes none stops (rw is.is at written.cut))

-- ---- with a text, in a mode with a file

text-of : (mode : RunMode) (asked : Options) (text : List ℕ) (queries : List QueryRun) (r : Result ℕ Stop) (writes : List SinkWrite) → (mode ≡ Print → ⊥) →
    AnswersText (manner_of asked) text (goal_of asked) (lists queries []) r writes → AnswersOf mode asked text (lists queries []) r writes
text-of Query asked text queries (Ok status) writes other is = is
text-of Query asked text queries (Err stop) writes other is = is
text-of Run asked text queries (Ok status) writes other is = is
text-of Run asked text queries (Err stop) writes other is = is
text-of Session asked text queries (Ok status) writes other is = is
text-of Session asked text queries (Err stop) writes other is = is
text-of Demo asked text queries (Ok status) writes other is = is
text-of Demo asked text queries (Err stop) writes other is = is
text-of Print asked text queries r writes other is = absurd (other refl)

pub of-text : (asked : Options) (text : List ℕ) (queries : List QueryRun) (r : Result ℕ Stop) (writes : List SinkWrite) → (asked.mode ≡ Print → ⊥) →
    AnswersText (manner_of asked) text (goal_of asked) (lists queries []) r writes → AnswersOf asked.mode asked text (lists queries []) r writes
of-text asked text queries r writes other is = text-of asked.mode asked text queries r writes other is

pub of-printed : (asked : Options) (text : List ℕ) (queries : List QueryRun) (r : Result ℕ Stop) (writes : List SinkWrite) → asked.mode ≡ Print → AnswersPrinted text queries r writes →
    AnswersOf asked.mode asked text (lists queries []) r writes
of-printed asked text queries (Ok status) writes in_mode is = rw in_mode is
of-printed asked text queries (Err stop) writes in_mode is = rw in_mode is

-- ---- with a program that is in a file

pub file-fault : (asked : Options) (held : Option Holding) (files : FaultCount) (queries : List QueryRun) (r : Result ℕ Stop) (reads : List FileRead) (writes : List SinkWrite) → Rises files →
    FailsReading asked.file reads → queries ≡ [] → IfOk r (λ given. given ≡ 7) → IfErr r (λ stop. stop ≡ Write) → Writes (read_fault_line ∷ []) r writes →
    AnswersFile asked (files_read held files reads) (lists queries []) r writes
file-fault asked held files queries (Ok status) reads writes rose fails none is stops written =
    widens writes (λ texts comes. whole.read_fault rose fails comes) (line-all read_fault_line 7 status queries writes none is written.all)
file-fault asked held files queries (Err stop) reads writes rose fails none is stops written =
    cut.read_fault rose fails (line-front read_fault_line stop queries writes none stops written.cut)

pub file-nothing : (asked : Options) (held : Option Holding) (files : FaultCount) (queries : List QueryRun) (reads : List FileRead) → Stands files → StopsReading asked.file reads → queries ≡ [] →
    CutFile asked (files_read held files reads) (lists queries []) 9 []
file-nothing asked held files queries reads stands some_read none = cut.nothing stands some_read (is-nothing queries none)

pub file-read : (asked : Options) (held : Option Holding) (files : FaultCount) (text : List ℕ) (queries : List QueryRun) (r : Result ℕ Stop) (reads : List FileRead) (writes : List SinkWrite) →
    Stands files → ReadsText asked.file text reads → IsRead held asked.file text → AnswersOf asked.mode asked text (lists queries []) r writes →
    AnswersFile asked (files_read held files reads) (lists queries []) r writes
file-read asked held files text queries (Ok status) reads writes stands all_read read ends =
    widens writes (λ texts comes. whole.was_read stands text all_read read comes) ends
file-read asked held files text queries (Err stop) reads writes stands all_read read ends = cut.was_read stands text all_read read ends

-- ---- with one that is made of a number

-- no file is read
no-read : (files : FaultCount) → Stands files → IsUnread files []
no-read files stands = record { stands = stands; no_read = refl }

pub made-nothing : (asked : Options) (files : FaultCount) (queries : List QueryRun) → Stands files → queries ≡ [] → CutMade asked files [] (lists queries []) 9 []
made-nothing asked files queries stands none = CutMade.nothing (no-read files stands) (is-nothing queries none)

pub made-text : (asked : Options) (files : FaultCount) (places : ℕ) (text : List ℕ) (queries : List QueryRun) (r : Result ℕ Stop) (writes : List SinkWrite) →
    Stands files → places_of asked ≡ Some places → text ≡ demo_program places → AnswersText (manner_of asked) text (goal_of asked) (lists queries []) r writes →
    AnswersMade asked files [] (lists queries []) r writes
made-text asked files places text queries (Ok status) writes stands number made ends =
    widens writes (λ texts comes. record { unread = no-read files stands; places = places; number = number; comes = comes }) (rw made at ends)
made-text asked files places text queries (Err stop) writes stands number made ends = CutMade.was_made (no-read files stands) places number (rw made at ends)

-- ---- by the words

-- a goal is asked of the program in a file, or that is printed
abbrev pub asks_of_file : RunMode → Bool
asks_of_file Query = true
asks_of_file Run = true
asks_of_file Print = true
asks_of_file other = false

file-in : (mode : RunMode) (asked : Options) (held : Option Holding) (files : FaultCount) (queries : List QueryRun) (r : Result ℕ Stop) (reads : List FileRead) (writes : List SinkWrite) →
    asked.mode ≡ mode → asks_of_file mode ≡ true → AnswersFile asked (files_read held files reads) (lists queries []) r writes → AnswersBy (Some asked) (files_read held files reads) (lists queries []) r writes
file-in Query asked held files queries (Ok status) reads writes is reads_one ends = subst (λ m. Written (λ texts. ComesIn m asked (files_read held files reads) (lists queries []) status texts) writes) (sym is) ends
file-in Query asked held files queries (Err stop) reads writes is reads_one ends = subst (λ m. CutIn m asked (files_read held files reads) (lists queries []) (status_of_stop stop) writes) (sym is) ends
file-in Run asked held files queries (Ok status) reads writes is reads_one ends = subst (λ m. Written (λ texts. ComesIn m asked (files_read held files reads) (lists queries []) status texts) writes) (sym is) ends
file-in Run asked held files queries (Err stop) reads writes is reads_one ends = subst (λ m. CutIn m asked (files_read held files reads) (lists queries []) (status_of_stop stop) writes) (sym is) ends
file-in Session asked held files queries r reads writes is reads_one ends = absurd cc
file-in Print asked held files queries (Ok status) reads writes is reads_one ends = subst (λ m. Written (λ texts. ComesIn m asked (files_read held files reads) (lists queries []) status texts) writes) (sym is) ends
file-in Print asked held files queries (Err stop) reads writes is reads_one ends = subst (λ m. CutIn m asked (files_read held files reads) (lists queries []) (status_of_stop stop) writes) (sym is) ends
file-in Demo asked held files queries r reads writes is reads_one ends = absurd cc

pub by-file : (words : List (List ℕ)) (asked : Options) (held : Option Holding) (files : FaultCount) (queries : List QueryRun) (r : Result ℕ Stop) (reads : List FileRead) (writes : List SinkWrite) →
    options words ≡ Some asked → (mode : RunMode) → asked.mode ≡ mode → asks_of_file mode ≡ true → AnswersFile asked (files_read held files reads) (lists queries []) r writes →
    AnswersBy (options words) (files_read held files reads) (lists queries []) r writes
by-file words asked held files queries r reads writes is mode in_mode reads_one ends =
    subst (λ o. AnswersBy o (files_read held files reads) (lists queries []) r writes) (sym is) (file-in mode asked held files queries r reads writes in_mode reads_one ends)

demo-in : (asked : Options) (held : Option Holding) (files : FaultCount) (queries : List QueryRun) (r : Result ℕ Stop) (writes : List SinkWrite) →
    asked.mode ≡ Demo → AnswersMade asked files [] (lists queries []) r writes → AnswersBy (Some asked) (files_read held files []) (lists queries []) r writes
demo-in asked held files queries (Ok status) writes is ends = subst (λ m. Written (λ texts. ComesIn m asked (files_read held files []) (lists queries []) status texts) writes) (sym is) ends
demo-in asked held files queries (Err stop) writes is ends = subst (λ m. CutIn m asked (files_read held files []) (lists queries []) (status_of_stop stop) writes) (sym is) ends

pub by-demo : (words : List (List ℕ)) (asked : Options) (held : Option Holding) (files : FaultCount) (queries : List QueryRun) (r : Result ℕ Stop) (writes : List SinkWrite) →
    options words ≡ Some asked → asked.mode ≡ Demo → AnswersMade asked files [] (lists queries []) r writes → AnswersBy (options words) (files_read held files []) (lists queries []) r writes
by-demo words asked held files queries r writes is in_mode ends =
    subst (λ o. AnswersBy o (files_read held files []) (lists queries []) r writes) (sym is) (demo-in asked held files queries r writes in_mode ends)

-- the words ask for what reads a file
pub no-unread : (words : List (List ℕ)) (asked : Options) (mode : RunMode) → options words ≡ Some asked → asked.mode ≡ mode → reads_file mode ≡ true → ReadsNoFile (options words) → ⊥
no-unread words asked mode is in_mode reads_one none =
    let unread : reads_file asked.mode ≡ false = subst ReadsNoFile is none in
    true≢false (sym reads_one ∙ (ap reads_file (sym in_mode) ∙ unread))

-- a line, where no file is read
line-unread : (line : List ℕ) (its status : ℕ) (files : FaultCount) (queries : List QueryRun) (writes : List SinkWrite) → Stands files → queries ≡ [] → status ≡ its →
    HandsAll (line ∷ []) writes → Written (whole.IsLineUnread line its files [] queries status) writes
line-unread line its status files queries writes stands none is handed =
    widens writes (λ texts comes. record { unread = no-read files stands; is = comes }) (line-all line its status queries writes none is handed)

pub by-usage : (words : List (List ℕ)) (held : Option Holding) (files : FaultCount) (queries : List QueryRun) (r : Result ℕ Stop) (writes : List SinkWrite) → options words ≡ None →
    Stands files → queries ≡ [] → IfOk r (λ given. given ≡ 2) → IfErr r (λ stop. stop ≡ Write) → Writes (usage_line ∷ []) r writes → AnswersBy (options words) (files_read held files []) (lists queries []) r writes
by-usage words held files queries (Ok status) writes is stands none two stops written =
    subst (λ o. AnswersBy o (files_read held files []) (lists queries []) (Ok status) writes) (sym is) (line-unread usage_line 2 status files queries writes stands none two written.all)
by-usage words held files queries (Err stop) writes is stands none two stops written =
    subst (λ o. CutBy o (files_read held files []) (lists queries []) (status_of_stop stop) writes) (sym is) (front_of (no-read files stands) (line-front usage_line stop queries writes none stops written.cut))

nothing-in : (mode : RunMode) (asked : Options) (held : Option Holding) (files : FaultCount) (queries : List QueryRun) → is_session mode ≡ false → Stands files → queries ≡ [] → CutIn mode asked (files_read held files []) (lists queries []) 9 []
nothing-in Query asked held files queries no_session stands none = file-nothing asked held files queries [] stands (record { text = []; read = nothing_read }) none
nothing-in Run asked held files queries no_session stands none = file-nothing asked held files queries [] stands (record { text = []; read = nothing_read }) none
nothing-in Print asked held files queries no_session stands none = file-nothing asked held files queries [] stands (record { text = []; read = nothing_read }) none
nothing-in Demo asked held files queries no_session stands none = made-nothing asked files queries stands none
nothing-in Session asked held files queries no_session stands none = absurd cc

pub by-nothing : (o : Option Options) (held : Option Holding) (files : FaultCount) (queries : List QueryRun) → AsksNoSession o → Stands files → queries ≡ [] → CutBy o (files_read held files []) (lists queries []) 9 []
by-nothing None held files queries no_session stands none = CutLine.nothing (no-read files stands) (is-nothing queries none)
by-nothing (Some asked) held files queries no_session stands none = nothing-in asked.mode asked held files queries no_session stands none
