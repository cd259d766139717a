-- What a call was handed of the outside: files, an input and a sink, each with what its trait says of it, as it was before the call and as it is after it.
use Rattle.std.specs.Prelude.{ℕ, List, Option}
use Rattle.pi_outside.specs.Held.{Holding}
use Rattle.pi_outside.specs.Inputs.{SourceRead}
use Rattle.pi_outside.specs.Reads.{FileRead}
use Rattle.pi_outside.specs.Writes.{SinkWrite}
use Rattle.pi_top.specs.Faults.{FaultCount, counted}

pub record FilesOver (F : Type 0) : Type 1 where
  pub has_read : F → FileRead → F → Type 0
  pub held : F → Option Holding
  pub faults : F → ℕ
  pub old : F
  pub new : F

pub record InputOver (I : Type 0) : Type 1 where
  pub has_read : I → SourceRead → I → Type 0
  pub rest : I → Option (List ℕ)
  pub faults : I → ℕ
  pub old : I
  pub new : I

pub record SinkOver (O : Type 0) : Type 1 where
  pub wrote : O → SinkWrite → O → Type 0
  pub taken : O → Option (List ℕ)
  pub faults : O → ℕ
  pub old : O
  pub new : O

abbrev pub files_over : {F : Type 0} → (F → FileRead → F → Type 0) → (F → Option Holding) → (F → ℕ) → F → F → FilesOver F
files_over has_read held faults old new = record { has_read = has_read; held = held; faults = faults; old = old; new = new }

abbrev pub input_over : {I : Type 0} → (I → SourceRead → I → Type 0) → (I → Option (List ℕ)) → (I → ℕ) → I → I → InputOver I
input_over has_read rest faults old new = record { has_read = has_read; rest = rest; faults = faults; old = old; new = new }

abbrev pub sink_over : {O : Type 0} → (O → SinkWrite → O → Type 0) → (O → Option (List ℕ)) → (O → ℕ) → O → O → SinkOver O
sink_over wrote taken faults old new = record { wrote = wrote; taken = taken; faults = faults; old = old; new = new }

-- how the faults of each are counted
abbrev pub files_count : {F : Type 0} → FilesOver F → FaultCount
files_count files = counted (files.faults files.old) (files.faults files.new)

abbrev pub input_count : {I : Type 0} → InputOver I → FaultCount
input_count input = counted (input.faults input.old) (input.faults input.new)

abbrev pub sink_count : {O : Type 0} → SinkOver O → FaultCount
sink_count out = counted (out.faults out.old) (out.faults out.new)
