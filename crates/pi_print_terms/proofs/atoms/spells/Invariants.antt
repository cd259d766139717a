use Rattle.std.proofs.Common.{◌≡◌, drop}
use Rattle.std.specs.Str.{bytes_eq}
use Rattle.pi_print_terms.proofs.atoms.spells.Given as goal

abbrev pub invariant-loop-at : goal.invariant-loop-at
invariant-loop-at l = bytes_eq (drop l.at l.text) (drop l.at l.word) ≡ bytes_eq l.text l.word
