-- What is written, and what those that are left come to, are the whole.
use Rattle.std.proofs.Common.{◌≡◌, ◌++◌, codes, drop}
use Rattle.std.specs.Prelude.{map}
use Rattle.std.specs.String.{string_bytes}
use denote.Shadow.{shadow}
use denote.Text.{Utf8}
use Rattle.pi_print_program.specs.Texts.{parted}
use Rattle.pi_print_program.specs.Canonical.{modes_text}
use Rattle.pi_print_program.proofs.PartedLemmas.{led}
use Rattle.pi_print_program.proofs.declarations.write_lists.Given as goal

abbrev pub invariant-loop-modes : goal.invariant-loop-modes
invariant-loop-modes l = record {
  text : shadow (Utf8 l.before);
  written : string_bytes l.out ++ led l.before (codes " ") (map modes_text (drop l.modes-index l.lists)) ≡ string_bytes l.initial.out ++ parted (codes " ") (map modes_text l.lists);
}
