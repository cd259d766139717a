-- A line that is all that is written, or the front of it that is, and nothing.
use Rattle.std.proofs.Common.{◌≡◌, ℕ, List, [], ◌∷◌, refl}
use Rattle.pi_outside.specs.Writes.{SinkWrite}
use Rattle.pi_top.specs.declared.query.Stop.{Stop}
use Rattle.pi_top.specs.declared.query.Stop.TheVariants.{Memory, Write}
use Rattle.pi_top.specs.declared.runs.QueryRun.{QueryRun}
use Rattle.pi_top.specs.Handing.{HandsAll, Written}
use Rattle.pi_top.specs.SoleLine.{IsLine}
use Rattle.pi_top.specs.Stops.{IsNothing, IsFront, status_of_stop}
use Rattle.pi_top.specs.Writing.{IsCutIn}

-- a line was written, or its write failed
pub line-all : (line : List ℕ) (its status : ℕ) (queries : List QueryRun) (writes : List SinkWrite) → queries ≡ [] → status ≡ its → HandsAll (line ∷ []) writes →
    Written (IsLine line its status queries) writes
line-all line its status queries writes none is handed = record { texts = line ∷ []; comes = record { is_its = is; none_ran = none; written = refl }; handed = handed }

pub line-front : (line : List ℕ) (stop : Stop) (queries : List QueryRun) (writes : List SinkWrite) → queries ≡ [] → stop ≡ Write → IsCutIn (line ∷ []) writes stop →
    IsFront line queries (status_of_stop stop) writes
line-front line Write queries writes none is fails = record { write = refl; none_asked = none; front = fails }
line-front line Memory queries writes none is nothing = absurd (cc)

-- memory was wanted before anything was written
pub is-nothing : (queries : List QueryRun) → queries ≡ [] → IsNothing queries 9 []
is-nothing queries none = record { memory = refl; none_asked = none; nothing = refl }
