-- What the writing of texts did, by what it answered.
use Rattle.std.specs.Prelude.{◌≡◌, ℕ, Bool, true, false, List, [], Result, IfOk, IfErr, OnOk, ⊤}
use Rattle.pi_outside.specs.Writes.{SinkWrite}
use Rattle.pi_meaning.specs.declared.happening.Happening.{Happening}
use Rattle.pi_top.specs.declared.manner.Lines.{Lines}
use Rattle.pi_top.specs.declared.query.Stop.{Stop}
use Rattle.pi_top.specs.declared.query.Stop.TheVariants.{Write, Memory}
use Rattle.pi_top.specs.Handing.{HandsAll, FailsIn}
use Rattle.pi_top.specs.QueryEnd.{QueryEnd, NoMore, No, Exception, StepsSpent, WorkSpent, status_of}
use Rattle.pi_top.specs.ToldLines.{end_lines}

-- the write of one of them failed; or memory was wanted, and nothing was written
abbrev pub IsCutIn : List (List ℕ) → List SinkWrite → Stop → Type 0
IsCutIn texts writes Write = FailsIn [] texts writes
IsCutIn texts writes Memory = writes ≡ []

-- these texts were handed over, or that was cut off
pub record Writes {T : Type 0} (texts : List (List ℕ)) (answer : Result T Stop) (writes : List SinkWrite) : Type 0 where
  pub all : OnOk answer (HandsAll texts writes)
  pub cut : IfErr answer (IsCutIn texts writes)

-- the line of an end, where it is written; its status is answered
pub record WritesLine (lines : Lines) (ending : QueryEnd) (answer : Result ℕ Stop) (writes : List SinkWrite) : Type 0 where
  pub line : Writes (end_lines lines ending) answer writes
  pub its_status : IfOk answer (λ status. status ≡ status_of ending)

-- nothing, and the run stops
pub record WritesNothing (answer : Result ℕ Stop) (writes : List SinkWrite) : Type 0 where
  pub stops : OnOk answer ⊥
  pub memory : IfErr answer (λ stop. stop ≡ Memory)
  pub nothing : writes ≡ []

-- what is written at a machine's end, behind answers or none
abbrev pub WritesEnd : Lines → Happening → Bool → Result ℕ Stop → List SinkWrite → Type 0
WritesEnd lines Happening.Done true answer writes = WritesLine lines NoMore answer writes
WritesEnd lines Happening.Done false answer writes = WritesLine lines No answer writes
WritesEnd lines (Happening.Raised ball) has answer writes = WritesLine lines (Exception ball) answer writes
WritesEnd lines Happening.StepsSpent has answer writes = WritesLine lines StepsSpent answer writes
WritesEnd lines Happening.WorkSpent has answer writes = WritesLine lines WorkSpent answer writes
WritesEnd lines Happening.Memory has answer writes = WritesNothing answer writes
WritesEnd lines (Happening.Answer a) has answer writes = ⊤
WritesEnd lines (Happening.Out text) has answer writes = ⊤
WritesEnd lines (Happening.NeedPlan call) has answer writes = ⊤
