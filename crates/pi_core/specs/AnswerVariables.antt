-- The variables of an answer.
use Rattle.std.specs.Prelude.{ℕ, List}
use Rattle.std.specs.List.{flat_map}
use Rattle.pi_terms.specs.Variables.{occurrences, firsts}
use Rattle.pi_core.specs.declared.answer.NamedTerm.{NamedTerm}

-- the variables of the values, by first occurrence over all of them
abbrev pub answer_variables : List NamedTerm → List ℕ
answer_variables values = firsts (flat_map (λ v. occurrences v.value) values)
