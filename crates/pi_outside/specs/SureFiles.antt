-- What files in memory that never fail are seen as.
use Rattle.std.specs.Prelude.{◌≡◌, Some, IsSome}
use Rattle.pi_outside.specs.Held.{Holding, bytes_of}
use Rattle.pi_outside.specs.Named.{added_files}
use Rattle.pi_outside.specs.Reads.{FileRead}
use Rattle.pi_outside.specs.declared.sure_files.SureFiles.{SureFiles}

-- the files that they hold: one of each name, without bytes where none was added
abbrev pub held_by : SureFiles → Holding
held_by files = λ name. Some (bytes_of (added_files files.named) name)

-- what a read makes of them: none fails
abbrev pub sure_has_read : SureFiles → FileRead → SureFiles → Type 0
sure_has_read before read after = IsSome read.gave × (held_by after ≡ held_by before)
