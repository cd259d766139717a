-- What is written, and what those that are left come to, are the whole.
use Rattle.std.proofs.Common.{◌≡◌, ◌++◌, codes, drop}
use Rattle.std.specs.Prelude.{map}
use Rattle.std.specs.String.{string_bytes}
use denote.Shadow.{shadow}
use denote.Text.{Utf8}
use Rattle.pi_print_program.specs.Texts.{parted}
use Rattle.pi_print_program.specs.Canonical.{mode_text}
use Rattle.pi_print_program.proofs.PartedLemmas.{led}
use Rattle.pi_print_program.proofs.declarations.write_modes.Given as goal

abbrev pub invariant-loop-mode : goal.invariant-loop-mode
invariant-loop-mode l = record {
  text : shadow (Utf8 l.before);
  written : string_bytes l.out ++ led l.before (codes ",") (map mode_text (drop l.mode-index l.modes)) ≡ string_bytes l.initial.out ++ parted (codes ",") (map mode_text l.modes);
}
