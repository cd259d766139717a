-- What stops a run without a line of its own: a write that fails, or want of memory; and what was written then.
use Rattle.std.specs.Prelude.{◌≡◌, ℕ, List, [], ◌∷◌}
use lib.Chars.{codes}
use Rattle.pi_outside.specs.Writes.{SinkWrite}
use Rattle.pi_top.specs.declared.query.Stop.{Stop}
use Rattle.pi_top.specs.declared.query.Stop.TheVariants.{Memory, Write}
use Rattle.pi_top.specs.declared.runs.QueryRun.{QueryRun}
use Rattle.pi_top.specs.Faults.{FaultCount, Stands, Rises}
use Rattle.pi_top.specs.Handing.{Hands, Fails, FailsIn}

-- the status that a stop has
abbrev pub status_of_stop : Stop → ℕ
status_of_stop Write = 8
status_of_stop Memory = 9

-- memory was wanted before anything was written, and no goal is listed
pub record IsNothing (queries : List QueryRun) (status : ℕ) (writes : List SinkWrite) : Type 0 where
  pub memory : status ≡ 9
  pub none_asked : queries ≡ []
  pub nothing : writes ≡ []

-- the write of a line, or of a text, failed, before which nothing was written, and no goal is listed
pub record IsFront (line : List ℕ) (queries : List QueryRun) (status : ℕ) (writes : List SinkWrite) : Type 0 where
  pub write : status ≡ 8
  pub none_asked : queries ≡ []
  pub front : FailsIn [] (line ∷ []) writes

abbrev pub memory_line : List ℕ
memory_line = codes "want of memory\n"

-- the line on want of memory was written, or its write failed and a front of it was
pub data WritesMemory (sink : FaultCount) (writes : List SinkWrite) : Type 0 where
  all_of_it : Stands sink → Hands memory_line writes → WritesMemory sink writes
  front_of_it : Rises sink → Fails memory_line writes → WritesMemory sink writes
