-- What the answers on a program's text that is printed say of it.
use Rattle.std.specs.Prelude.{◌≡◌, ℕ, List}
use Rattle.std.specs.String.{string_bytes}
use Rattle.pi_print_program.specs.Canonical.{canonical_text}
use Rattle.pi_syntax.specs.ProgramTree.{ProgramTree}
use Rattle.pi_top.specs.declared.printing.Printed.{Printed}
use Rattle.pi_top.specs.FaultLines.{of_program}
use Rattle.pi_top.specs.Judged.{IsProgramText, IsProgramLine}

-- a text is this program, whose canonical text this is
pub record IsCanonical (text whole : List ℕ) : Type 0 where
  pub program : ProgramTree
  pub is_program : IsProgramText text program
  pub is : whole ≡ canonical_text program

-- a program's text has a fault, whose whole line this is
pub record IsFaulty (text line : List ℕ) : Type 0 where
  pub fault : List ℕ
  pub is_fault : IsProgramLine text fault
  pub is : line ≡ of_program fault

-- of a program's text that is printed
abbrev pub ShowsPrinted : List ℕ → Printed → Type 0
ShowsPrinted text (Printed.Canonical whole) = IsCanonical text whole
ShowsPrinted text (Printed.Refused line) = IsFaulty text (string_bytes line)
