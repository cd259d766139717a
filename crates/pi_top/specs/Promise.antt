-- What picatq promises, in one record: of the words, of the files, the input and the sink that it was handed, and of what it answers.
use Rattle.std.specs.Prelude.{◌≡◌, ◌≢◌, ◌≤◌, ◌⊎◌, ℕ, List, [], Some}
use Rattle.pi_outside.specs.Faults.{NeverFalls, Rose}
use Rattle.pi_outside.specs.Given.{IsSpent}
use Rattle.pi_outside.specs.Inputs.{ByInput}
use Rattle.pi_outside.specs.Reads.{ByReads}
use Rattle.pi_outside.specs.Writes.{ByWrites}
use Rattle.pi_top_words.specs.Words.{options}
use Rattle.pi_top_words.specs.declared.asked.Options.{Options}
use Rattle.pi_top.specs.Completeness.{NothingFails, NothingFailsInSession, Completes}
use Rattle.pi_top.specs.Ends.{Ends, AsksNoSession, AsksSession, ReadsNoFile}
use Rattle.pi_top.specs.Over.{FilesOver, InputOver, SinkOver, files_count, input_count, sink_count}
use Rattle.pi_top.specs.Runs.{AllWithin}
use Rattle.pi_top.specs.SessionEnds.{SessionEnds}
use Rattle.pi_top.specs.declared.outcome.Outcome.{Outcome}
use Rattle.pi_top.specs.Told.{files_read, input_read, lists, sink_written}
use Rattle.pi_top.specs.Took.{bounds_asked}

-- Of a session's input so many bytes are taken at most; one that has more is too long.
pub record Promise {F I O : Type 0} (most : ℕ) (words : List (List ℕ)) (files : FilesOver F) (input : InputOver I) (out : SinkOver O)
    (outcome : Outcome) : Type 0 where
  -- There is no other status than 0 to 9.
  pub statuses : outcome.status ≤ 9
  -- Where the words ask no session, all that was read and written, and no more, makes the end of a run of these words, with this status.
  pub ends : ByReads files.has_read files.old files.new
      (λ reads. ByWrites out.wrote out.taken out.old out.new (λ writes. AsksNoSession (options words) →
      Ends words (files_read (files.held files.new) (files_count files) reads) (lists outcome.queries outcome.log) outcome.status
      (sink_written (sink_count out) writes)))
  -- Where they ask one, it makes the end of this session.
  pub session : ByReads files.has_read files.old files.new
      (λ reads. ByInput input.has_read input.rest input.old input.new
      (λ inputs. ByWrites out.wrote out.taken out.old out.new (λ writes. (asked : Options) → AsksSession (options words) asked →
      SessionEnds asked (files_read (files.held files.new) (files_count files) reads) (input_read most (input_count input) inputs)
      (lists outcome.queries outcome.log) outcome.status (sink_written (sink_count out) writes))))
  -- Where nothing fails what the words ask is done to its end, or memory is wanted.
  pub complete : ByWrites out.wrote out.taken out.old out.new (λ writes. (asked : Options) → AsksNoSession (options words) →
      NothingFails words asked outcome.status (files_count files) (sink_count out) →
      Completes asked (files.held files.new) (lists outcome.queries outcome.log) outcome.status writes)
  -- So it is with a session.
  pub complete_session : (asked : Options) →
      NothingFailsInSession words asked outcome.status (files_count files) (input_count input) (sink_count out) →
      (outcome.status ≡ 0) ⊎ (outcome.status ≡ 9)
  -- With 0 a session has read its input to the end.
  pub spent : (asked : Options) → AsksSession (options words) asked → outcome.status ≡ 0 → IsSpent (input.rest input.new)
  -- With 7 a read of the files or of the input failed.
  pub read_fault : outcome.status ≡ 7 →
      Rose (files.faults files.old) (files.faults files.new) ⊎ Rose (input.faults input.old) (input.faults input.new)
  -- With each status but 7 and 8 no read failed.
  pub reads_well : outcome.status ≢ 7 → outcome.status ≢ 8 →
      (files.faults files.new ≡ files.faults files.old) × (input.faults input.new ≡ input.faults input.old)
  -- With 8 a write failed.
  pub write_fault : outcome.status ≡ 8 → Rose (out.faults out.old) (out.faults out.new)
  -- With each status but 8 and 9 no write failed.
  pub writes_well : outcome.status ≢ 8 → outcome.status ≢ 9 → out.faults out.new ≡ out.faults out.old
  -- The sink's count of faults never falls.
  pub never_falls : NeverFalls (out.faults out.old) (out.faults out.new)
  -- Where what the words ask reads no file, or they ask nothing, the files are as they were.
  pub unread : ReadsNoFile (options words) → files.new ≡ files.old
  -- Where they ask no session, the input is as it was.
  pub no_input : AsksNoSession (options words) → input.new ≡ input.old
  -- No planner call was done.
  pub no_log : outcome.log ≡ []
  -- None was begun.
  pub none_entered : outcome.entered ≡ []
  -- No goal took more Ticks, or did more work, than the words allow.
  pub ran : (asked : Options) → options words ≡ Some asked → AllWithin (bounds_asked asked) outcome.queries
