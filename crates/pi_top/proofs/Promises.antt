-- What picatq promises follows from how its runs end, and from how it answers.
use Rattle.std.proofs.Common.{◌≡◌, ◌≤◌, ℕ, List, [], Some, ap}
use Rattle.pi_outside.specs.Faults.{NeverFalls}
use Rattle.pi_outside.specs.Given.{IsSpent}
use Rattle.pi_outside.specs.Inputs.{ByInput}
use Rattle.pi_outside.specs.Reads.{ByReads}
use Rattle.pi_outside.specs.Writes.{ByWrites}
use Rattle.pi_outside.proofs.WriteRuns.{ByWrites-so}
use Rattle.pi_top_words.specs.Words.{options}
use Rattle.pi_top_words.specs.declared.asked.Options.{Options}
use Rattle.pi_top.specs.Ends.{Ends, AsksNoSession, AsksSession, ReadsNoFile}
use Rattle.pi_top.specs.Over.{FilesOver, InputOver, SinkOver, files_count, input_count, sink_count}
use Rattle.pi_top.specs.Promise.{Promise}
use Rattle.pi_top.specs.Runs.{AllWithin}
use Rattle.pi_top.specs.Took.{bounds_asked}
use Rattle.pi_top.specs.SessionEnds.{SessionEnds}
use Rattle.pi_top.specs.declared.outcome.Outcome.{Outcome}
use Rattle.pi_top.proofs.Completing.{complete}
use Rattle.pi_top.proofs.EndStatuses.{counts-tell}
use Rattle.pi_top.proofs.SessionStatuses.{AllTell, session-tells, session-whole, told-by}
use Rattle.pi_top.specs.Told.{files_read, input_read, lists, sink_written}

-- what the run itself gives of it
pub record Gives {F I O : Type 0} (most : ℕ) (words : List (List ℕ)) (files : FilesOver F) (input : InputOver I) (out : SinkOver O) (outcome : Outcome) : Type 0 where
  pub statuses : outcome.status ≤ 9
  pub ends : ByReads files.has_read files.old files.new (λ reads. ByWrites out.wrote out.taken out.old out.new (λ writes. AsksNoSession (options words) →
      Ends words (files_read (files.held files.new) (files_count files) reads) (lists outcome.queries outcome.log) outcome.status (sink_written (sink_count out) writes)))
  pub session : ByReads files.has_read files.old files.new (λ reads. ByInput input.has_read input.rest input.old input.new (λ inputs. ByWrites out.wrote out.taken out.old out.new (λ writes.
      (asked : Options) → AsksSession (options words) asked →
      SessionEnds asked (files_read (files.held files.new) (files_count files) reads) (input_read most (input_count input) inputs) (lists outcome.queries outcome.log) outcome.status (sink_written (sink_count out) writes))))
  pub spent : (asked : Options) → AsksSession (options words) asked → outcome.status ≡ 0 → IsSpent (input.rest input.new)
  pub never_falls : NeverFalls (out.faults out.old) (out.faults out.new)
  pub unread : ReadsNoFile (options words) → files.new ≡ files.old
  pub no_input : AsksNoSession (options words) → input.new ≡ input.old
  pub no_log : outcome.log ≡ []
  pub none_entered : outcome.entered ≡ []
  pub ran : (asked : Options) → options words ≡ Some asked → AllWithin (bounds_asked asked) outcome.queries

all-tell : {F I O : Type 0} (most : ℕ) (words : List (List ℕ)) (files : FilesOver F) (input : InputOver I) (out : SinkOver O) (outcome : Outcome) →
    Gives most words files input out outcome → AllTell outcome.status (files_count files) (input_count input) (sink_count out)
all-tell most words files input out outcome gives =
    let ends = gives.ends in
    let session = gives.session in
    told-by (options words) outcome.status (files_count files) (input_count input) (sink_count out)
    (λ no. counts-tell _ _ _ _ _ _ _ ends.reads ends.holds.writes (ends.holds.holds no)) (λ no. ap input.faults (gives.no_input no))
    (λ asked is. session-tells asked _ _ _ _ _ _ _ _ session.reads session.holds.reads session.holds.holds.writes (session.holds.holds.holds asked is))

pub promised : {F I O : Type 0} (most : ℕ) (words : List (List ℕ)) (files : FilesOver F) (input : InputOver I) (out : SinkOver O) (outcome : Outcome) →
    Gives most words files input out outcome → Promise most words files input out outcome
promised most words files input out outcome gives =
    let ends = gives.ends in
    let session = gives.session in
    let tell = all-tell most words files input out outcome gives in
    record {
      statuses = gives.statuses;
      ends = ends;
      session = session;
      complete = ByWrites-so ends.holds (λ writes is. λ asked no_session none. complete _ asked _ _ _ _ _ _ ends.reads writes (is no_session) none);
      complete_session = λ asked none. session-whole _ asked _ _ _ _ _ _ _ _ session.reads session.holds.reads session.holds.holds.writes (session.holds.holds.holds asked none.asks) none;
      spent = gives.spent;
      read_fault = tell.read_fault;
      reads_well = tell.reads_well;
      write_fault = tell.write_fault;
      writes_well = tell.writes_well;
      never_falls = gives.never_falls;
      unread = gives.unread;
      no_input = gives.no_input;
      no_log = gives.no_log;
      none_entered = gives.none_entered;
      ran = gives.ran;
    }
