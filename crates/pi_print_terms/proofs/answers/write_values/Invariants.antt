use Rattle.std.proofs.Common.{◌≡◌, ◌++◌, drop, map}
use Rattle.pi_print_terms.specs.PrintAnswer.{value_line}
use Rattle.pi_print_terms.proofs.answers.write_values.Given as goal

abbrev pub invariant-loop-named : goal.invariant-loop-named
invariant-loop-named l = l.lines ++ map (value_line l.printer.numbers) (drop l.named-index l.values) ≡ l.initial.lines ++ map (value_line l.printer.numbers) l.values
