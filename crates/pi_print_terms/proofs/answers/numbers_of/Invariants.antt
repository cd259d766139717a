use Rattle.std.proofs.Common.{◌≡◌, drop}
use Rattle.std.specs.List.{flat_map}
use Rattle.pi_terms.specs.Variables.{occurrences}
use Rattle.pi_core.specs.AnswerVariables.{answer_variables}
use Rattle.pi_print_terms.specs.Numbers.{noted_all}
use Rattle.pi_print_terms.proofs.answers.numbers_of.Given as goal

abbrev pub invariant-loop-named : goal.invariant-loop-named
invariant-loop-named l = noted_all l.numbers (flat_map (λ v. occurrences v.value) (drop l.named-index l.values)) ≡ answer_variables l.values
