use Rattle.std.proofs.Common.{◌≡◌, ◌++◌, drop}
use Rattle.std.specs.String.{string_bytes}
use Rattle.pi_resume.specs.Token.{later_numbers}
use Rattle.pi_resume.proofs.writer.write_later.Given as goal

abbrev pub invariant-loop-number : goal.invariant-loop-number
invariant-loop-number l = string_bytes l.text ++ later_numbers (drop l.number-index l.numbers) ≡ string_bytes l.initial.text ++ later_numbers l.numbers
