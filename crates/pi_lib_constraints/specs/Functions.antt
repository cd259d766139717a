-- The functions of domains. (A User's Guide to Picat, 'Constraints'.)
use Rattle.std.specs.Prelude.{ℕ, suc, List, ℤ, pos, codes}
use Rattle.std.specs.Int.{int_gap}
use Rattle.pi_terms.specs.Tree.{Tree}
use Rattle.pi_constraints.specs.declared.domain.Span.{Span}
use Rattle.pi_constraints.specs.Domain.{numbers_from, size_of}
use Rattle.pi_constraints.specs.State.{State}
use Rattle.pi_effects.specs.Answer.{Answer}
use Rattle.pi_settling.specs.DomainValues.{least_value, greatest_value, value_count, all_its_values}
use Rattle.pi_lib_constraints.specs.declared.functions.DomainFunction.{DomainFunction}

abbrev pub function_name : DomainFunction → List ℕ
function_name DomainFunction.Least = codes "fd_min"
function_name DomainFunction.Greatest = codes "fd_max"
function_name DomainFunction.Size = codes "fd_size"
function_name DomainFunction.Values = codes "fd_dom"

-- what each of them answers
abbrev pub function_done : DomainFunction → State → Tree → Answer Tree
function_done DomainFunction.Least s t = least_value s t
function_done DomainFunction.Greatest s t = greatest_value s t
function_done DomainFunction.Size s t = value_count s t
function_done DomainFunction.Values s t = all_its_values s t

-- how many values there are, as a number of the language
abbrev pub count_of : List Span → ℤ
count_of d = pos (size_of d)

-- the values of a span, ascending
abbrev pub span_values : Span → List ℤ
span_values s = numbers_from s.lo (suc (int_gap s.lo s.hi))
