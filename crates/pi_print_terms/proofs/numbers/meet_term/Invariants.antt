use Rattle.std.proofs.Common.{◌≡◌}
use Rattle.pi_terms.specs.Tree.{cells_all}
use Rattle.pi_terms.specs.Variables.{occurrences, occurrences_all}
use Rattle.pi_print_terms.specs.Numbers.{noted_all}
use Rattle.pi_print_terms.proofs.numbers.meet_term.Given as goal

abbrev pub invariant-loop-head : goal.invariant-loop-head
invariant-loop-head l = noted_all l.numbers (occurrences_all l.ahead) ≡ noted_all l.fn.numbers (occurrences l.term)

abbrev pub decreases-loop-head : goal.decreases-loop-head
decreases-loop-head l = cells_all l.ahead
