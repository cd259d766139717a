-- What files in memory are seen as.
use Rattle.std.specs.Prelude.{◌≡◌, ℕ, List, Option, None, Some}
use Rattle.pi_outside.specs.Calls.{Calls, passed, failed}
use Rattle.pi_outside.specs.Held.{Holding}
use Rattle.pi_outside.specs.Named.{added_files}
use Rattle.pi_outside.specs.Reads.{FileRead}
use Rattle.pi_outside.specs.declared.memory_files.MemoryFiles.{MemoryFiles}

-- the files that they hold
abbrev pub held_by : MemoryFiles → Holding
held_by files = added_files files.named

-- their calls
abbrev pub calls_of : MemoryFiles → Calls
calls_of files = files.calls

-- the calls behind a read, by what came of it
abbrev pub after_read : Calls → Option (List ℕ) → Calls
after_read calls (Some bytes) = passed calls
after_read calls None = failed calls

-- what a read makes of them
abbrev pub memory_has_read : MemoryFiles → FileRead → MemoryFiles → Type 0
memory_has_read before read after = (held_by after ≡ held_by before) × (calls_of after ≡ after_read (calls_of before) read.gave)
