use Rattle.std.proofs.Common.{◌≡◌, ◌++◌, drop}
use Rattle.pi_resume.specs.Scanned.{scanned_on}
use Rattle.pi_resume.proofs.reader.numbers_between.Given as goal

abbrev pub invariant-loop-byte : goal.invariant-loop-byte
invariant-loop-byte l = l.path ++ scanned_on (drop l.byte-index l.text) l.value ≡ scanned_on l.text 0
