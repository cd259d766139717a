use Rattle.std.proofs.Common.{◌≡◌, ◌++◌, drop}
use Rattle.std.specs.String.{string_bytes}
use Rattle.std.specs.List.{flat_map}
use Rattle.pi_syntax.specs.PrintAtom.{in_quotes}
use Rattle.pi_print_terms.proofs.atoms.write_in_quotes.Given as goal

abbrev pub invariant-loop-c : goal.invariant-loop-c
invariant-loop-c l = string_bytes l.out ++ flat_map in_quotes (drop l.c-index l.text) ≡ string_bytes l.initial.out ++ flat_map in_quotes l.text
