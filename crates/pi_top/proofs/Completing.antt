-- A run is complete where nothing fails.
use Rattle.std.proofs.Common.{◌≡◌, ◌≢◌, ◌<◌, ℕ, true, List, [], ◌∷◌, Option, inl, inr, refl, sym, ap, subst, ◌∙◌, arith}
use Rattle.pi_top.specs.Demo.{demo_program}
use Rattle.pi_outside.specs.Held.{Holding}
use Rattle.pi_core.specs.declared.log.LogEntry.{LogEntry}
use Rattle.pi_syntax.specs.ExpTree.{ExpTree}
use Rattle.pi_syntax.specs.ProgramTree.{ProgramTree}
use Rattle.pi_traces.specs.Trace.{Emitted}
use Rattle.pi_top.specs.declared.runs.QueryRun.{QueryRun}
use Rattle.pi_top_words.specs.declared.run_mode.RunMode.{RunMode}
use Rattle.pi_top_words.specs.declared.run_mode.RunMode.TheVariants.{Query, Run, Session, Print, Demo}
use Rattle.pi_top_words.specs.declared.asked.Options.{Options}
use Rattle.pi_top.specs.Completeness.{NothingFails, IsText, IsComplete, IsPrinted, CompletesIn, Completes}
use Rattle.pi_top.specs.Ends.{Ends, all_written, write_failed, memory_wanted}
use Rattle.pi_top.specs.Faults.{FaultCount, Rises}
use Rattle.pi_top.specs.Handing.{HandsAll}
use Rattle.pi_top.specs.Manner.{manner_of, goal_of}
use Rattle.pi_top.specs.QueryEnd.{QueryEnd, Stopped, NoMore, No, Exception, StepsSpent, WorkSpent, status_of}
use Rattle.pi_top.specs.Runs.{HasRan, run_of, HaveWorkLeft}
use Rattle.pi_top.specs.Statuses.{ComesText, refused, ran, ComesPrinted, faulty, printed, ComesOf, ComesFile, read_fault, was_read, ComesIn, ComesBy}
use Rattle.pi_top.specs.Texts.{IsRead}
use Rattle.pi_outside.specs.Reads.{FileRead}
use Rattle.pi_outside.specs.Writes.{SinkWrite}
use Rattle.pi_top.proofs.Endings.{asks_of_file}
use Rattle.pi_top.proofs.Manners.{manner-bounds}
use Rattle.pi_top.specs.Took.{Bounds, Took, TakesAt}
use Rattle.pi_top.specs.Told.{files_read, lists, sink_written}

-- all of the work wasn't done, so it wasn't spent
left-unspent : {A : Type 0} (work : ℕ) (ending : QueryEnd) (took : Took) (part : List (Emitted A)) → took.runs < work → TakesAt work ending took part → status_of ending ≢ 6
left-unspent work Stopped took part left takes six = absurd (omega (arith, six))
left-unspent work NoMore took part left takes six = absurd (omega (arith, six))
left-unspent work No took part left takes six = absurd (omega (arith, six))
left-unspent work (Exception ball) took part left takes six = absurd (omega (arith, six))
left-unspent work StepsSpent took part left takes six = absurd (omega (arith, six))
left-unspent work WorkSpent took part left takes six = absurd (omega (arith, left, takes.used))

ran-unspent : (asked : Options) (program : ProgramTree) (goal : ExpTree) (queries : List QueryRun) (log : List LogEntry) (status : ℕ) (texts : List (List ℕ)) → HaveWorkLeft asked.work queries →
    HasRan (manner_of asked) program goal (lists queries log) status texts → status ≢ 6
ran-unspent asked program goal queries log status texts left has six =
    let one : HaveWorkLeft asked.work (run_of has.took ∷ []) = subst (HaveWorkLeft asked.work) has.listed left in
    let same : (manner_of asked).work ≡ asked.work = ap (λ (b : Bounds). b.work) (manner-bounds asked) in
    let less : has.took.runs < (manner_of asked).work = let here = one.0 in omega (arith, here, same) in
    left-unspent (manner_of asked).work has.headline.ending has.took has.headline.part less has.headline.takes (sym has.headline.its_status ∙ six)

text-complete : (asked : Options) (held : Option Holding) (text : List ℕ) (queries : List QueryRun) (log : List LogEntry) (status : ℕ) (texts : List (List ℕ)) (writes : List SinkWrite) → status ≢ 3 →
    IsText asked.mode asked held text → HandsAll texts writes → ComesText (manner_of asked) text (goal_of asked) (lists queries log) status texts → IsComplete asked held (lists queries log) status writes
text-complete asked held text queries log status texts writes sound is_text handed (refused line is written) = absurd (sound written.is_its)
text-complete asked held text queries log status texts writes sound is_text handed (ran program of_program asks has) = record {
  text = text;
  is_text = is_text;
  program = program;
  of_program = of_program;
  asks = asks;
  ran = record { texts = texts; comes = has; handed = handed };
  not_spent = λ left. ran-unspent asked program of_program queries log status texts left has;
}

printed-complete : (asked : Options) (held : Option Holding) (text : List ℕ) (queries : List QueryRun) (status : ℕ) (texts : List (List ℕ)) (writes : List SinkWrite) → status ≢ 3 →
    IsRead held asked.file text → HandsAll texts writes → ComesPrinted text queries status texts → IsPrinted asked held queries status writes
printed-complete asked held text queries status texts writes sound is_text handed (faulty fault is written) = absurd (sound written.is_its)
printed-complete asked held text queries status texts writes sound is_text handed (printed program is written) = record {
  text = text;
  is_text = is_text;
  program = program;
  is_program = is;
  printed = record { texts = texts; comes = written; handed = handed };
}

-- what a mode with a file makes of a text
of-complete : (mode : RunMode) (asked : Options) (held : Option Holding) (text : List ℕ) (queries : List QueryRun) (log : List LogEntry) (status : ℕ) (texts : List (List ℕ)) (writes : List SinkWrite) → asked.mode ≡ mode →
    status ≢ 3 → asks_of_file mode ≡ true → IsRead held asked.file text → HandsAll texts writes → ComesOf mode asked text (lists queries log) status texts → CompletesIn mode asked held (lists queries log) status writes
of-complete Query asked held text queries log status texts writes is sound reads_one read handed comes = text-complete asked held text queries log status texts writes sound (rw is read) handed comes
of-complete Run asked held text queries log status texts writes is sound reads_one read handed comes = text-complete asked held text queries log status texts writes sound (rw is read) handed comes
of-complete Print asked held text queries log status texts writes is sound reads_one read handed comes = printed-complete asked held text queries status texts writes sound read handed comes
of-complete Session asked held text queries log status texts writes is sound reads_one read handed comes = absurd cc
of-complete Demo asked held text queries log status texts writes is sound reads_one read handed comes = absurd cc

file-complete : (mode : RunMode) (asked : Options) (held : Option Holding) (files : FaultCount) (reads : List FileRead) (queries : List QueryRun) (log : List LogEntry) (status : ℕ) (texts : List (List ℕ)) (writes : List SinkWrite) → asked.mode ≡ mode → status ≢ 3 →
    (Rises files → ⊥) → asks_of_file mode ≡ true → HandsAll texts writes → ComesFile asked (files_read held files reads) (lists queries log) status texts → CompletesIn mode asked held (lists queries log) status writes
file-complete mode asked held files reads queries log status texts writes is sound whole reads_one handed (read_fault rose fails line) = absurd (whole rose)
file-complete mode asked held files reads queries log status texts writes is sound whole reads_one handed (was_read stands text all_read is_read comes) =
    of-complete mode asked held text queries log status texts writes is sound reads_one is_read handed (subst (λ m. ComesOf m asked text (lists queries log) status texts) is comes)

-- a text that is read is the program's in a mode with a file
in-complete : (mode : RunMode) (asked : Options) (held : Option Holding) (files : FaultCount) (reads : List FileRead) (queries : List QueryRun) (log : List LogEntry) (status : ℕ) (texts : List (List ℕ)) (writes : List SinkWrite) →
    asked.mode ≡ mode → status ≢ 3 → (Rises files → ⊥) → HandsAll texts writes → ComesIn mode asked (files_read held files reads) (lists queries log) status texts → CompletesIn mode asked held (lists queries log) status writes
in-complete Query asked held files reads queries log status texts writes is sound whole handed comes =
    file-complete Query asked held files reads queries log status texts writes is sound whole refl handed comes
in-complete Run asked held files reads queries log status texts writes is sound whole handed comes =
    file-complete Run asked held files reads queries log status texts writes is sound whole refl handed comes
in-complete Session asked held files reads queries log status texts writes is sound whole handed comes = absurd comes
in-complete Print asked held files reads queries log status texts writes is sound whole handed comes =
    file-complete Print asked held files reads queries log status texts writes is sound whole refl handed comes
in-complete Demo asked held files reads queries log status texts writes is sound whole handed comes =
    text-complete asked held (demo_program comes.places) queries log status texts writes sound (rw is (comes.places, comes.number, refl)) handed comes.comes

pub complete : (words : List (List ℕ)) (asked : Options) (held : Option Holding) (queries : List QueryRun) (log : List LogEntry) (status : ℕ) (files sink : FaultCount) (reads : List FileRead) (writes : List SinkWrite) →
    Ends words (files_read held files reads) (lists queries log) status (sink_written sink writes) → NothingFails words asked status files sink → Completes asked held (lists queries log) status writes
complete words asked held queries log status files sink reads writes (all_written stands w) none =
    inr (in-complete asked.mode asked held files reads queries log status w.texts writes refl none.no_fault none.no_read_fails w.handed
    (subst (λ o. ComesBy o (files_read held files reads) (lists queries log) status w.texts) none.asks w.comes))
complete words asked held queries log status files sink reads writes (write_failed eight rose cut) none = absurd (none.no_write_fails rose)
complete words asked held queries log status files sink reads writes (memory_wanted nine earlier line split cut written) none = inl nine
