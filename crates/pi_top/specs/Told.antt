-- What is told of a part of a run: of the files and the input that it read, of the sink that it wrote to, and of what it ran.
use Rattle.std.specs.Prelude.{ℕ, List, Option}
use Rattle.pi_outside.specs.Held.{Holding}
use Rattle.pi_outside.specs.Inputs.{SourceRead}
use Rattle.pi_outside.specs.Reads.{FileRead}
use Rattle.pi_outside.specs.Writes.{SinkWrite}
use Rattle.pi_core.specs.declared.log.LogEntry.{LogEntry}
use Rattle.pi_top.specs.declared.runs.QueryRun.{QueryRun}
use Rattle.pi_top.specs.Faults.{FaultCount}

-- what files hold after it, where they tell it, their count of faults, and their reads
pub record FilesRead : Type 0 where
  pub held : Option Holding
  pub count : FaultCount
  pub reads : List FileRead

abbrev pub files_read : Option Holding → FaultCount → List FileRead → FilesRead
files_read held count reads = record { held = held; count = count; reads = reads }

-- how many bytes of an input are taken at most, where it has more too, its count of faults, and its reads
pub record InputRead : Type 0 where
  pub most : ℕ
  pub count : FaultCount
  pub reads : List SourceRead

abbrev pub input_read : ℕ → FaultCount → List SourceRead → InputRead
input_read most count reads = record { most = most; count = count; reads = reads }

-- a sink's count of faults, and the writes to it
pub record SinkWritten : Type 0 where
  pub count : FaultCount
  pub writes : List SinkWrite

abbrev pub sink_written : FaultCount → List SinkWrite → SinkWritten
sink_written count writes = record { count = count; writes = writes }

-- the goals that were run, and the planner calls that were done
pub record Lists : Type 0 where
  pub queries : List QueryRun
  pub log : List LogEntry

abbrev pub lists : List QueryRun → List LogEntry → Lists
lists queries log = record { queries = queries; log = log }
