-- `fd_min`, `fd_max`, `fd_size` and `fd_dom`: of a variable with a domain, or of an integer, which has itself as its one value. They leave the state as it is. (A User's Guide to
-- Picat, 'Constraints'; the limit and exceptions are own.)
use Rattle.std.specs.Prelude.{◌≡◌, ℕ, nat_lt, Bool, cond, List, [], ◌∷◌, map, Option, Some, None, option_map, is_some, pos, codes, Ok, Err}
use Rattle.pi_terms.specs.Tree.{Tree, var, int, atom, comp, Trees, tree_count}
use Rattle.pi_constraints.specs.declared.domain.Span.{Span}
use Rattle.pi_constraints.specs.Domain.{values_of, size_of}
use Rattle.pi_constraints.specs.State.{State, bindings, domain_of, followed}
use Rattle.pi_prop_spec.specs.Ends.{least_of, greatest_of}
use Rattle.pi_effects.specs.Effect.{FunctionEffect}
use Rattle.pi_effects.specs.Exception.{type_error, range_too_long}
use Rattle.pi_effects.specs.Answer.{Answer, found_or}
use Rattle.pi_effects.specs.Items.{list_of}
use Rattle.pi_effects.specs.Ranges.{most_items}
use Rattle.pi_effects.specs.Rows.{of_one, Row, line, done_by, has_line}
use Rattle.pi_effects.specs.BuiltIns.{answer_in}
use Rattle.pi_settling.specs.Roots.{only}

-- the values of a term whose bindings are followed; None of a variable without a domain, and of a term that is neither a variable nor an integer
abbrev pub domain_at : State → Tree → Option (List Span)
domain_at s (var n) = domain_of s n
domain_at s (int i) = Some (only i)
domain_at s (atom name) = None
domain_at s (comp name ts) = None

-- what follows from the values of a term; one that has none is of a wrong kind
abbrev pub domain_then : {A : Type 0} → State → Tree → (List Span → Answer A) → Answer A
domain_then s t f = found_or (domain_at s (followed (bindings s) t)) (type_error (codes "domain") t s) f

abbrev pub least_value : State → Tree → Answer Tree
least_value s t = domain_then s t (λ d. Ok (int (least_of d)))

abbrev pub greatest_value : State → Tree → Answer Tree
greatest_value s t = domain_then s t (λ d. Ok (int (greatest_of d)))

abbrev pub value_count : State → Tree → Answer Tree
value_count s t = domain_then s t (λ d. Ok (int (pos (size_of d))))

-- the values as a list, ascending
abbrev pub value_list : List Span → Answer Tree
value_list d = cond (nat_lt most_items (size_of d)) (Err range_too_long) (Ok (list_of (map int (values_of d))))

abbrev pub all_its_values : State → Tree → Answer Tree
all_its_values s t = domain_then s t value_list

unfoldable pub domain_functions : List (Row (Answer Tree))
domain_functions =
    line (codes "fd_min") (of_one least_value) ∷
    line (codes "fd_max") (of_one greatest_value) ∷
    line (codes "fd_size") (of_one value_count) ∷
    line (codes "fd_dom") (of_one all_its_values) ∷
    []

-- what such a function does; None where there is none of that name with so many arguments
abbrev pub domain_function : List ℕ → Trees → State → Option FunctionEffect
domain_function name ts s = option_map (answer_in s) (done_by domain_functions name ts s)

-- which names are those of such functions, with which numbers of arguments
abbrev pub is_domain_function : List ℕ → ℕ → Bool
is_domain_function name k = has_line domain_functions name k

-- just these do something
abbrev pub DomainFunctionsAreListed : Type 0
DomainFunctionsAreListed = (name : List ℕ) (ts : Trees) (s : State) → is_some (domain_function name ts s) ≡ is_domain_function name (tree_count ts)
