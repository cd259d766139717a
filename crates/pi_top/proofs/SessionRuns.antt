-- A session, line by line, and how it ends.
use Rattle.std.proofs.Common.{◌≡◌, ℕ, ◌+◌, List, [], ◌∷◌, ◌++◌, Option, None, Result, Ok, Err, IfOk, refl, sym, ap, subst, ◌∙◌}
use Rattle.std.specs.Prelude.{IfErr}
use Rattle.std.proofs.lemmas.List.{append-nil}
use Rattle.pi_outside.specs.Inputs.{SourceRead}
use Rattle.pi_outside.specs.Writes.{SinkWrite}
use Rattle.pi_core.specs.CoreTree.{PredTree}
use Rattle.pi_syntax.specs.ProgramTree.{ProgramTree}
use Rattle.pi_constraints.specs.Store.{StoreView}
use Rattle.pi_outside.specs.Ahead.{Ahead, at_start}
use Rattle.pi_outside.specs.Finding.{OfLine, FindsLine, MeetsEnd, PassesLimit, FailsReading, StopsReading, nothing as none_read}
use Rattle.pi_outside.specs.Requests.{most_in_line, request_of}
use Rattle.pi_top.specs.declared.manner.Manner.{Manner}
use Rattle.pi_top.specs.declared.runs.QueryRun.{QueryRun}
use Rattle.pi_top.specs.declared.present.Present.{Present as PresentRun}
use Rattle.pi_top.specs.declared.query.Stop.{Stop}
use Rattle.pi_top.specs.declared.query.Stop.TheVariants.{Memory, Write}
use Rattle.pi_top.specs.Faults.{FaultCount, Stands, Rises}
use Rattle.pi_top.specs.Serving.{Present, input_too_long_line, Serves, CutServing}
use Rattle.pi_top.specs.Session.{ServedSoFar, at_first, one_more, Served, SessionComes, SessionCut}
use Rattle.pi_top.specs.ServingCode.{ServesAll}
use Rattle.pi_top.specs.SessionCode.{AnswersSession, IsServedSoFar}
use Rattle.pi_top.specs.SoleLine.{read_fault_line}
use Rattle.pi_top.specs.Writing.{Writes}
use Rattle.pi_outside.proofs.Kept.{kept-within}
use Rattle.pi_top.specs.Told.{input_read, lists}
use Rattle.pi_top.specs.QueryWords.{listed_over, session_of}

-- the bytes of a line that are kept ask what it asks
line-asks : (kept : List ℕ) (P : List ℕ → Type 0) (of : OfLine (most_in_line + 1) kept P) → request_of kept ≡ request_of of.line
line-asks kept P of = ap request_of of.is_kept ∙ kept-within most_in_line of.line

-- before the first line
pub served-first : {S M : Type 0} (seen : S → StoreView M) (order : M → ℕ) (manner : Manner) (program : ProgramTree) (core : List PredTree) (most : ℕ) (queries : List QueryRun) → queries ≡ [] →
    IsServedSoFar seen order manner program core most None (at_start most) queries [] []
served-first seen order manner program core most queries none = record {
  lines = [];
  present = Present.no_query;
  so_far = subst (λ l. ServedSoFar manner program [] most [] Present.no_query l (at_start most) [] []) (sym none) at_first;
  keeps = refl;
}

-- one line more
pub served-more : {S M : Type 0} (seen : S → StoreView M) (order : M → ℕ) (manner : Manner) (program : ProgramTree) (core : List PredTree) (most : ℕ) (run next : Option (PresentRun S M)) (ahead after : Ahead)
    (queries new : List QueryRun) (reads its : List SourceRead) (writes its_writes : List SinkWrite) (kept : List ℕ) → (s : IsServedSoFar seen order manner program core most run ahead queries reads writes) →
    OfLine (most_in_line + 1) kept (λ line. FindsLine ahead its line after) → ServesAll (session_of seen order manner program core) s.present (request_of kept) next (listed_over queries new) its_writes →
    IsServedSoFar seen order manner program core most next after new (reads ++ its) (writes ++ its_writes)
served-more seen order manner program core most run next ahead after queries new reads its writes its_writes kept s of is =
    let serves : Serves manner program [] s.present (request_of of.line) is.next queries new its_writes =
    subst (λ a. Serves manner program [] s.present a is.next queries new its_writes) (line-asks kept (λ line. FindsLine ahead its line after) of) is.serves in
    record {
      lines = s.lines ++ of.line ∷ [];
      present = is.next;
      so_far = one_more s.lines s.present is.next queries new ahead after reads its writes its_writes of.line s.so_far of.holds serves;
      keeps = is.keeps;
    }

-- up to there, with what comes behind
abbrev up-to : {S M : Type 0} (seen : S → StoreView M) (order : M → ℕ) (manner : Manner) (program : ProgramTree) (core : List PredTree) (most : ℕ) (run : Option (PresentRun S M)) (ahead : Ahead)
    (queries : List QueryRun) (reads its : List SourceRead) (writes its_writes : List SinkWrite) → IsServedSoFar seen order manner program core most run ahead queries reads writes →
    Served manner program [] most (reads ++ its) its (writes ++ its_writes) its_writes
up-to seen order manner program core most run ahead queries reads its writes its_writes s = record {
  lines = s.lines;
  present = s.present;
  runs = queries;
  ahead = ahead;
  earlier = reads;
  earlier_writes = writes;
  so_far = s.so_far;
  reads_are = refl;
  writes_are = refl;
}

-- a line's serving is cut off
pub cut-at-line : {S M : Type 0} (seen : S → StoreView M) (order : M → ℕ) (manner : Manner) (program : ProgramTree) (core : List PredTree) (most : ℕ) (run : Option (PresentRun S M)) (ahead after : Ahead) (input : FaultCount)
    (queries new : List QueryRun) (reads its : List SourceRead) (writes its_writes : List SinkWrite) (kept : List ℕ) (status : ℕ) → (s : IsServedSoFar seen order manner program core most run ahead queries reads writes) →
    Stands input → OfLine (most_in_line + 1) kept (λ line. FindsLine ahead its line after) → CutServing manner program [] s.present (request_of kept) queries new status its_writes →
    SessionCut manner program (input_read most input (reads ++ its)) (lists new []) status (writes ++ its_writes)
cut-at-line seen order manner program core most run ahead after input queries new reads its writes its_writes kept status s stands of is =
    SessionCut.at_a_line stands its its_writes (up-to seen order manner program core most run ahead queries reads its writes its_writes s) of.line after of.holds
    (subst (λ a. CutServing manner program [] s.present a queries new status its_writes) (line-asks kept (λ line. FindsLine ahead its line after) of) is)

-- what stands behind the last line feed is served, or that is cut off
pub session-ends : {S M : Type 0} (seen : S → StoreView M) (order : M → ℕ) (manner : Manner) (program : ProgramTree) (core : List PredTree) (most : ℕ) (run next : Option (PresentRun S M)) (ahead : Ahead) (input : FaultCount)
    (queries new : List QueryRun) (reads its : List SourceRead) (writes its_writes : List SinkWrite) (kept : List ℕ) → (s : IsServedSoFar seen order manner program core most run ahead queries reads writes) →
    Stands input → OfLine (most_in_line + 1) kept (λ line. MeetsEnd ahead its line) → ServesAll (session_of seen order manner program core) s.present (request_of kept) next (listed_over queries new) its_writes →
    SessionComes manner program (input_read most input (reads ++ its)) (lists new []) 0 (writes ++ its_writes)
session-ends seen order manner program core most run next ahead input queries new reads its writes its_writes kept s stands of is =
    SessionComes.to_its_end refl stands its its_writes (up-to seen order manner program core most run ahead queries reads its writes its_writes s) of.line is.next of.holds
    (subst (λ a. Serves manner program [] s.present a is.next queries new its_writes) (line-asks kept (λ line. MeetsEnd ahead its line) of) is.serves)

pub cut-at-end : {S M : Type 0} (seen : S → StoreView M) (order : M → ℕ) (manner : Manner) (program : ProgramTree) (core : List PredTree) (most : ℕ) (run : Option (PresentRun S M)) (ahead : Ahead) (input : FaultCount)
    (queries new : List QueryRun) (reads its : List SourceRead) (writes its_writes : List SinkWrite) (kept : List ℕ) (status : ℕ) → (s : IsServedSoFar seen order manner program core most run ahead queries reads writes) →
    Stands input → OfLine (most_in_line + 1) kept (λ line. MeetsEnd ahead its line) → CutServing manner program [] s.present (request_of kept) queries new status its_writes →
    SessionCut manner program (input_read most input (reads ++ its)) (lists new []) status (writes ++ its_writes)
cut-at-end seen order manner program core most run ahead input queries new reads its writes its_writes kept status s stands of is =
    SessionCut.at_its_end stands its its_writes (up-to seen order manner program core most run ahead queries reads its writes its_writes s) of.line of.holds
    (subst (λ a. CutServing manner program [] s.present a queries new status its_writes) (line-asks kept (λ line. MeetsEnd ahead its line) of) is)

-- the line on an input that is too long is written, or its write fails
pub session-too-long : {S M : Type 0} (seen : S → StoreView M) (order : M → ℕ) (manner : Manner) (program : ProgramTree) (core : List PredTree) (most : ℕ) (run : Option (PresentRun S M)) (ahead : Ahead) (input : FaultCount)
    (queries : List QueryRun) (reads its : List SourceRead) (writes its_writes : List SinkWrite) (r : Result ℕ Stop) → IsServedSoFar seen order manner program core most run ahead queries reads writes → Stands input → PassesLimit ahead its →
    IfOk r (λ given. given ≡ 3) → IfErr r (λ stop. stop ≡ Write) → Writes (input_too_long_line ∷ []) r its_writes →
    AnswersSession manner program (input_read most input (reads ++ its)) queries r (writes ++ its_writes)
session-too-long seen order manner program core most run ahead input queries reads its writes its_writes (Ok status) s stands over three stops written =
    SessionComes.past_limit three stands its its_writes (up-to seen order manner program core most run ahead queries reads its writes its_writes s) over refl written.all
session-too-long seen order manner program core most run ahead input queries reads its writes its_writes (Err Write) s stands over three stops written =
    SessionCut.past_limit refl stands its its_writes (up-to seen order manner program core most run ahead queries reads its writes its_writes s) over refl written.cut
session-too-long seen order manner program core most run ahead input queries reads its writes its_writes (Err Memory) s stands over three stops written = absurd (cc)

-- the line on a read that failed
pub session-fault : {S M : Type 0} (seen : S → StoreView M) (order : M → ℕ) (manner : Manner) (program : ProgramTree) (core : List PredTree) (most : ℕ) (run : Option (PresentRun S M)) (ahead : Ahead) (input : FaultCount)
    (queries : List QueryRun) (reads its : List SourceRead) (writes its_writes : List SinkWrite) (r : Result ℕ Stop) → IsServedSoFar seen order manner program core most run ahead queries reads writes → Rises input → FailsReading ahead its →
    IfOk r (λ given. given ≡ 7) → IfErr r (λ stop. stop ≡ Write) → Writes (read_fault_line ∷ []) r its_writes →
    AnswersSession manner program (input_read most input (reads ++ its)) queries r (writes ++ its_writes)
session-fault seen order manner program core most run ahead input queries reads its writes its_writes (Ok status) s rises fails seven stops written =
    SessionComes.read_fault seven rises its its_writes (up-to seen order manner program core most run ahead queries reads its writes its_writes s) fails refl written.all
session-fault seen order manner program core most run ahead input queries reads its writes its_writes (Err Write) s rises fails seven stops written =
    SessionCut.read_fault refl rises its its_writes (up-to seen order manner program core most run ahead queries reads its writes its_writes s) fails refl written.cut
session-fault seen order manner program core most run ahead input queries reads its writes its_writes (Err Memory) s rises fails seven stops written = absurd (cc)

-- memory is wanted while a line is read
pub session-stops : {S M : Type 0} (seen : S → StoreView M) (order : M → ℕ) (manner : Manner) (program : ProgramTree) (core : List PredTree) (most : ℕ) (run : Option (PresentRun S M)) (ahead : Ahead) (input : FaultCount)
    (queries : List QueryRun) (reads its : List SourceRead) (writes : List SinkWrite) → IsServedSoFar seen order manner program core most run ahead queries reads writes → Stands input → StopsReading ahead its →
    SessionCut manner program (input_read most input (reads ++ its)) (lists queries []) 9 writes
session-stops seen order manner program core most run ahead input queries reads its writes s stands stops =
    let served : Served manner program [] most (reads ++ its) its writes [] = record {
      lines = s.lines;
      present = s.present;
      runs = queries;
      ahead = ahead;
      earlier = reads;
      earlier_writes = writes;
      so_far = s.so_far;
      reads_are = refl;
      writes_are = sym (append-nil writes);
    } in
    SessionCut.while_reading refl stands its served stops refl

-- before any read for the next line
stops-at-once : (ahead : Ahead) → StopsReading ahead []
stops-at-once ahead = record { at = ahead; on = none_read }

pub session-stops-at-once : {S M : Type 0} (seen : S → StoreView M) (order : M → ℕ) (manner : Manner) (program : ProgramTree) (core : List PredTree) (most : ℕ) (run : Option (PresentRun S M)) (ahead : Ahead) (input : FaultCount)
    (queries : List QueryRun) (reads : List SourceRead) (writes : List SinkWrite) → IsServedSoFar seen order manner program core most run ahead queries reads writes → Stands input →
    SessionCut manner program (input_read most input reads) (lists queries []) 9 writes
session-stops-at-once seen order manner program core most run ahead input queries reads writes s stands =
    subst (λ l. SessionCut manner program (input_read most input l) (lists queries []) 9 writes) (append-nil reads) (session-stops seen order manner program core most run ahead input queries reads [] writes s stands (stops-at-once ahead))
