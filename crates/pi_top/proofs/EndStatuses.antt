-- The status of a run, and which counts of faults stand at it.
use Rattle.std.proofs.Common.{◌≡◌, ◌≢◌, ◌<◌, ◌≤◌, ℕ, List, [], ◌++◌, Option, None, Some, Result, Ok, Err, IfOk, OnOk, OnErr, refl, ◌∙◌, arith}
use Rattle.std.proofs.lemmas.List.{append-nil}
use Rattle.pi_outside.specs.Faults.{Rose}
use Rattle.pi_outside.specs.Held.{Holding}
use Rattle.pi_outside.specs.Reads.{FileRead}
use Rattle.pi_outside.specs.Writes.{SinkWrite}
use Rattle.pi_core.specs.declared.log.LogEntry.{LogEntry}
use Rattle.pi_top.specs.declared.manner.Manner.{Manner}
use Rattle.pi_top.specs.declared.runs.QueryRun.{QueryRun}
use Rattle.pi_top.specs.declared.query.Stop.{Stop}
use Rattle.pi_top.specs.declared.query.Stop.TheVariants.{Memory, Write}
use Rattle.pi_top_words.specs.declared.run_mode.RunMode.{RunMode}
use Rattle.pi_top_words.specs.declared.run_mode.RunMode.TheVariants.{Query, Run, Session, Print, Demo}
use Rattle.pi_top_words.specs.declared.asked.Options.{Options}
use Rattle.pi_top.specs.CutOff.{CutFile, CutMade, CutLine, CutIn, CutBy}
use Rattle.pi_top.specs.CutOff as cut
use Rattle.pi_top.specs.Ends.{Ends, all_written, write_failed, memory_wanted, AnswersBy, GivesStatus}
use Rattle.pi_top.specs.Stops.{WritesMemory, all_of_it, front_of_it, memory_line}
use Rattle.pi_top.specs.Faults.{FaultCount, counted, Stands, Rises, TellsWrites}
use Rattle.pi_top.specs.Handing.{HandsText}
use Rattle.pi_top.specs.Demo.{demo_program}
use Rattle.pi_top.specs.Manner.{manner_of, goal_of}
use Rattle.pi_top.specs.QueryEnd.{QueryEnd, Stopped, NoMore, No, Exception, StepsSpent, WorkSpent, status_of}
use Rattle.pi_top.specs.Statuses.{ComesText, ComesPrinted, ComesOf, ComesFile, ComesMade, ComesIn, ComesBy}
use Rattle.pi_top.specs.Statuses as whole
use Rattle.pi_top_words.specs.Words.{options}
use Rattle.pi_outside.specs.declared.failed.Failed.{Failed}
use Rattle.pi_top.specs.Told.{files_read, lists, sink_written}

-- what was answered, and then its status: the sink's count between both is that behind the first
pub status-given : (words : List (List ℕ)) (held : Option Holding) (files : FaultCount) (queries : List QueryRun) (r : Result ℕ Stop) (status sink0 sink1 sink2 : ℕ)
    (reads : List FileRead) (first second : List SinkWrite) → TellsWrites sink0 sink1 r → AnswersBy (options words) (files_read held files reads) (lists queries []) r first →
    GivesStatus r status (counted sink1 sink2) second → Ends words (files_read held files reads) (lists queries []) status (sink_written (counted sink0 sink2) (first ++ second))
status-given words held files queries (Ok given) status sink0 sink1 sink2 reads first second tells ends gives =
    all_written (gives.1 ∙ tells.no_fault) (rw (gives.0, gives.2, append-nil first) ends)
status-given words held files queries (Err Write) status sink0 sink1 sink2 reads first second tells ends gives =
    write_failed gives.0 (rw gives.1 (tells.write refl)) (rw (gives.0, gives.2, append-nil first) ends)
status-given words held files queries (Err Memory) status sink0 sink1 sink2 reads first second tells ends gives =
    memory_wanted gives.0 first second refl (rw gives.0 ends) (rw (← tells.memory refl) gives.1)

pub status-most : (r : Result ℕ Stop) (status : ℕ) (sink : FaultCount) (writes : List SinkWrite) → IfOk r (λ given. given < 8) → GivesStatus r status sink writes → status ≤ 9
status-most (Ok given) status sink writes less gives = omega (arith, less, gives.0)
status-most (Err Write) status sink writes less gives = omega (arith, gives.0)
status-most (Err Memory) status sink writes less gives = omega (arith, gives.0)

-- the line on memory, or its front
pub memory-line : (r : Result (Unit {0}) Failed) (sink0 sink1 : ℕ) (writes : List SinkWrite) → HandsText memory_line r writes → OnOk r (sink1 ≡ sink0) → OnErr r (Rose sink0 sink1) →
    WritesMemory (counted sink0 sink1) writes
memory-line (Ok x) sink0 sink1 writes hands stands rose = all_of_it stands hands
memory-line (Err e) sink0 sink1 writes hands stands rose = front_of_it rose hands

-- where a run stopped
pub gives-write : (stop : Stop) (faults : ℕ) → stop ≡ Write → GivesStatus (Err stop) 8 (counted faults faults) []
gives-write Write faults is = (refl, refl, refl)
gives-write Memory faults is = absurd (cc)

pub gives-memory : (stop : Stop) (sink : FaultCount) (writes : List SinkWrite) → stop ≡ Memory → WritesMemory sink writes → GivesStatus (Err stop) 9 sink writes
gives-memory Write sink writes is line = absurd (cc)
gives-memory Memory sink writes is line = (refl, line)

-- ---- which statuses what comes to an end has

query-status : (ending : QueryEnd) → status_of ending < 7
query-status Stopped = omega arith
query-status NoMore = omega arith
query-status No = omega arith
query-status (Exception ball) = omega arith
query-status StepsSpent = omega arith
query-status WorkSpent = omega arith

text-status : (manner : Manner) (text goal : List ℕ) (queries : List QueryRun) (log : List LogEntry) (status : ℕ) (texts : List (List ℕ)) → ComesText manner text goal (lists queries log) status texts → status < 7
text-status manner text goal queries log status texts (whole.refused line is written) = omega (arith, written.is_its)
text-status manner text goal queries log status texts (whole.ran program of_program asks has) =
    let less = query-status has.headline.ending in omega (arith, less, has.headline.its_status)

printed-status : (text : List ℕ) (queries : List QueryRun) (status : ℕ) (texts : List (List ℕ)) → ComesPrinted text queries status texts → status < 7
printed-status text queries status texts (whole.faulty fault is written) = omega (arith, written.is_its)
printed-status text queries status texts (whole.printed program is written) = omega (arith, written.is_its)

of-status : (mode : RunMode) (asked : Options) (text : List ℕ) (queries : List QueryRun) (log : List LogEntry) (status : ℕ) (texts : List (List ℕ)) →
    ComesOf mode asked text (lists queries log) status texts → status < 7
of-status Query asked text queries log status texts comes = text-status (manner_of asked) text (goal_of asked) queries log status texts comes
of-status Run asked text queries log status texts comes = text-status (manner_of asked) text (goal_of asked) queries log status texts comes
of-status Session asked text queries log status texts comes = text-status (manner_of asked) text (goal_of asked) queries log status texts comes
of-status Print asked text queries log status texts comes = printed-status text queries status texts comes
of-status Demo asked text queries log status texts comes = text-status (manner_of asked) text (goal_of asked) queries log status texts comes

-- with 7 a read failed, and with each other status none did
record ReadsTell (files : FaultCount) (status : ℕ) : Type 0 where
  pub below : status < 8
  pub failed : status ≡ 7 → Rises files
  pub well : status ≢ 7 → Stands files

file-reads : (asked : Options) (held : Option Holding) (files : FaultCount) (reads : List FileRead) (queries : List QueryRun) (log : List LogEntry) (status : ℕ) (texts : List (List ℕ)) →
    ComesFile asked (files_read held files reads) (lists queries log) status texts → ReadsTell files status
file-reads asked held files reads queries log status texts (whole.read_fault rose fails line) =
    record { below = omega (arith, line.is_its); failed = λ seven. rose; well = λ other. absurd (other line.is_its) }
file-reads asked held files reads queries log status texts (whole.was_read stands text all_read read comes) =
    let less = of-status asked.mode asked text queries log status texts comes in
    record { below = omega (arith, less); failed = λ seven. absurd (omega (arith, less, seven)); well = λ other. stands }

line-reads : (line : List ℕ) (its : ℕ) (files : FaultCount) (reads : List FileRead) (queries : List QueryRun) (status : ℕ) (texts : List (List ℕ)) → its < 7 →
    whole.IsLineUnread line its files reads queries status texts → ReadsTell files status
line-reads line its files reads queries status texts less is = record {
  below = omega (arith, less, is.is.is_its);
  failed = λ seven. absurd (omega (arith, less, is.is.is_its, seven));
  well = λ other. is.unread.stands;
}

made-reads : (asked : Options) (files : FaultCount) (reads : List FileRead) (queries : List QueryRun) (log : List LogEntry) (status : ℕ) (texts : List (List ℕ)) →
    ComesMade asked files reads (lists queries log) status texts → ReadsTell files status
made-reads asked files reads queries log status texts is =
    let less = text-status (manner_of asked) (demo_program is.places) (goal_of asked) queries log status texts is.comes in
    record { below = omega (arith, less); failed = λ seven. absurd (omega (arith, less, seven)); well = λ other. is.unread.stands }

in-reads : (mode : RunMode) (asked : Options) (held : Option Holding) (files : FaultCount) (reads : List FileRead) (queries : List QueryRun) (log : List LogEntry) (status : ℕ) (texts : List (List ℕ)) →
    ComesIn mode asked (files_read held files reads) (lists queries log) status texts → ReadsTell files status
in-reads Query asked held files reads queries log status texts comes = file-reads asked held files reads queries log status texts comes
in-reads Run asked held files reads queries log status texts comes = file-reads asked held files reads queries log status texts comes
in-reads Session asked held files reads queries log status texts comes = absurd comes
in-reads Print asked held files reads queries log status texts comes = file-reads asked held files reads queries log status texts comes
in-reads Demo asked held files reads queries log status texts comes = made-reads asked files reads queries log status texts comes

by-reads : (o : Option Options) (held : Option Holding) (files : FaultCount) (reads : List FileRead) (queries : List QueryRun) (log : List LogEntry) (status : ℕ) (texts : List (List ℕ)) →
    ComesBy o (files_read held files reads) (lists queries log) status texts → ReadsTell files status
by-reads None held files reads queries log status texts line = line-reads whole.usage_line 2 files reads queries status texts (omega arith) line
by-reads (Some asked) held files reads queries log status texts comes = in-reads asked.mode asked held files reads queries log status texts comes

-- where memory was wanted no read failed
cut-reads : (asked : Options) (held : Option Holding) (files : FaultCount) (reads : List FileRead) (queries : List QueryRun) (log : List LogEntry) (status : ℕ) (writes : List SinkWrite) → status ≢ 8 →
    CutFile asked (files_read held files reads) (lists queries log) status writes → Stands files
cut-reads asked held files reads queries log status writes other (cut.nothing stands some_read is) = stands
cut-reads asked held files reads queries log status writes other (cut.read_fault rose fails is) = absurd (other is.write)
cut-reads asked held files reads queries log status writes other (cut.was_read stands text all_read read is) = stands

cut-line-reads : (line : List ℕ) (files : FaultCount) (reads : List FileRead) (queries : List QueryRun) (status : ℕ) (writes : List SinkWrite) → CutLine line files reads queries status writes → Stands files
cut-line-reads line files reads queries status writes (CutLine.nothing unread is) = unread.stands
cut-line-reads line files reads queries status writes (cut.front_of unread is) = unread.stands

cut-made-reads : (asked : Options) (files : FaultCount) (reads : List FileRead) (queries : List QueryRun) (log : List LogEntry) (status : ℕ) (writes : List SinkWrite) →
    CutMade asked files reads (lists queries log) status writes → Stands files
cut-made-reads asked files reads queries log status writes (CutMade.nothing unread is) = unread.stands
cut-made-reads asked files reads queries log status writes (CutMade.was_made unread places number is) = unread.stands

cut-in-reads : (mode : RunMode) (asked : Options) (held : Option Holding) (files : FaultCount) (reads : List FileRead) (queries : List QueryRun) (log : List LogEntry) (status : ℕ) (writes : List SinkWrite) → status ≢ 8 →
    CutIn mode asked (files_read held files reads) (lists queries log) status writes → Stands files
cut-in-reads Query asked held files reads queries log status writes other is = cut-reads asked held files reads queries log status writes other is
cut-in-reads Run asked held files reads queries log status writes other is = cut-reads asked held files reads queries log status writes other is
cut-in-reads Session asked held files reads queries log status writes other is = absurd is
cut-in-reads Print asked held files reads queries log status writes other is = cut-reads asked held files reads queries log status writes other is
cut-in-reads Demo asked held files reads queries log status writes other is = cut-made-reads asked files reads queries log status writes is

cut-by-reads : (o : Option Options) (held : Option Holding) (files : FaultCount) (reads : List FileRead) (queries : List QueryRun) (log : List LogEntry) (status : ℕ) (writes : List SinkWrite) → status ≢ 8 →
    CutBy o (files_read held files reads) (lists queries log) status writes → Stands files
cut-by-reads None held files reads queries log status writes other is = cut-line-reads whole.usage_line files reads queries status writes is
cut-by-reads (Some asked) held files reads queries log status writes other is = cut-in-reads asked.mode asked held files reads queries log status writes other is

-- ---- what a run's end says of the counts

pub record CountsTell (status : ℕ) (files sink : FaultCount) : Type 0 where
  pub read_fault : status ≡ 7 → Rises files
  pub reads_well : status ≢ 7 → status ≢ 8 → Stands files
  pub write_fault : status ≡ 8 → Rises sink
  pub writes_well : status ≢ 8 → status ≢ 9 → Stands sink

pub counts-tell : (words : List (List ℕ)) (held : Option Holding) (queries : List QueryRun) (log : List LogEntry) (status : ℕ) (files sink : FaultCount) (reads : List FileRead) (writes : List SinkWrite) →
    Ends words (files_read held files reads) (lists queries log) status (sink_written sink writes) → CountsTell status files sink
counts-tell words held queries log status files sink reads writes (all_written stands written) =
    let told = by-reads (options words) held files reads queries log status written.texts written.comes in
    record {
      read_fault = told.failed;
      reads_well = λ no_seven no_eight. told.well no_seven;
      write_fault = λ eight. absurd (omega (arith, told.below, eight));
      writes_well = λ no_eight no_nine. stands;
    }
counts-tell words held queries log status files sink reads writes (write_failed eight rose is) = record {
  read_fault = λ seven. absurd (omega (arith, eight, seven));
  reads_well = λ no_seven no_eight. absurd (no_eight eight);
  write_fault = λ same. rose;
  writes_well = λ no_eight no_nine. absurd (no_eight eight);
}
counts-tell words held queries log status files sink reads writes (memory_wanted nine earlier line split is written) = record {
  read_fault = λ seven. absurd (omega (arith, nine, seven));
  reads_well = λ no_seven no_eight. cut-by-reads (options words) held files reads queries log status earlier no_eight is;
  write_fault = λ eight. absurd (omega (arith, nine, eight));
  writes_well = λ no_eight no_nine. absurd (no_nine nine);
}
