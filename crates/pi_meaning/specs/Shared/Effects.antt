-- What is built: the built-ins of the tables, goals of constraints and functions of domains, by their names. What each does is said before it is settled. (A User's Guide to
-- Picat, 'Appendix: Predicates and Functions' and 'Constraints'; which names are there is own.)
use Rattle.std.specs.Prelude.{ℕ, ◌||◌, Bool, List, Option}
use Rattle.std.specs.Option.{option_or}
use Rattle.pi_terms.specs.Tree.{Trees}
use Rattle.pi_constraints.specs.State.{State}
use Rattle.pi_effects.specs.Effect.{Effect, FunctionEffect}
use Rattle.pi_effects.specs.BuiltIns.{built_in_predicate, built_in_function, is_predicate, is_function}
use Rattle.pi_settling.specs.Goals.{constraint_effect, is_constraint_goal}
use Rattle.pi_settling.specs.SolveCalls.{is_solve}
use Rattle.pi_settling.specs.DomainValues.{domain_function, is_domain_function}

-- what a predicate does; None for any other name
abbrev pub predicate_effect : List ℕ → Trees → State → Option Effect
predicate_effect name ts s = option_or (built_in_predicate name ts s) (constraint_effect name ts s)

-- the same of functions
abbrev pub value_effect : List ℕ → Trees → State → Option FunctionEffect
value_effect name ts s = option_or (built_in_function name ts s) (domain_function name ts s)

-- just these do something
abbrev pub is_effect_name : List ℕ → ℕ → Bool
is_effect_name name k = is_predicate name k || is_constraint_goal name k

-- and these are built besides: `solve`, which labels
abbrev pub is_built_name : List ℕ → ℕ → Bool
is_built_name name k = is_effect_name name k || is_solve name k

abbrev pub is_value_name : List ℕ → ℕ → Bool
is_value_name name k = is_function name k || is_domain_function name k
