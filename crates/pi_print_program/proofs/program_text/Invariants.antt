-- What is written, and the parts that are left, are the whole.
use Rattle.std.proofs.Common.{◌≡◌, ◌++◌, drop}
use Rattle.std.specs.Prelude.{map}
use Rattle.std.specs.List.{flat_map}
use Rattle.std.specs.String.{string_bytes}
use Rattle.pi_syntax.specs.ProgramTree.{part_tree}
use Rattle.pi_print_program.specs.Canonical.{part_text}
use Rattle.pi_print_program.proofs.program_text.Given as goal

abbrev pub invariant-loop-part : goal.invariant-loop-part
invariant-loop-part l = string_bytes l.out ++ flat_map part_text (map part_tree (drop l.part-index l.part-items)) ≡ flat_map part_text (map part_tree l.part-items)
