-- What a goal posts: new variables and constraints, or why it is refused. (A User's Guide to Picat, 'Constraints'; limits and exceptions are own.)
use Rattle.std.specs.Prelude.{ℕ, ◌-◌, List, [], Option, Some, None, Result, Ok, Err, codes}
use Rattle.pi_terms.specs.Tree.{Tree, atom}
use Rattle.pi_constraints.specs.Value.{value}
use Rattle.pi_constraints.specs.State.{State, bindings, next}
use Rattle.pi_effects.specs.Exception.{exception_with}
use Rattle.pi_constraints.specs.declared.constraint.Constraint.{Constraint}
use Rattle.pi_prop_spec.specs.Operands.{Goal, relates, is_so, all_different, all_distinct, element, no_constraint}
use Rattle.pi_prop_spec.specs.Terms.{goal_of}
use Rattle.pi_prop_spec.specs.Steps.{Refusal, not_a_constraint, too_many_terms, wide_coefficient, Made, Known, Reading, refuses}
use Rattle.pi_prop_spec.specs.Relations.{posts_relation}
use Rattle.pi_prop_spec.specs.Truths.{posts_truth}
use Rattle.pi_prop_spec.specs.Lists.{posts_different, posts_distinct, posts_element}
use Rattle.pi_prop_spec.specs.Limits.{first_refusal}

-- so many new variables, numbered behind those that were made, and the constraints in the order of their making
pub record Posting : Type 0 where
  pub fresh : ℕ
  pub list : List Constraint

-- what is made where a goal is read
abbrev pub read_goal : Goal → Reading (Unit {0})
read_goal (relates c x y) = posts_relation c x y
read_goal (is_so b) = posts_truth b
read_goal (all_different t) = posts_different t
read_goal (all_distinct t) = posts_distinct t
read_goal (element i l v) = posts_element i l v
read_goal (no_constraint t) = refuses (not_a_constraint t)

-- nothing is made yet, where so many variables are
abbrev pub nothing_made : ℕ → Made
nothing_made n = record { unused = n; constraints = [] }

-- the finished constraints are judged behind all steps and operands
abbrev pub posting_unless : Option Refusal → ℕ → Made → Result Posting Refusal
posting_unless (Some r) n m = Err r
posting_unless None n m = Ok (record { fresh = m.unused - n; list = m.constraints })

abbrev pub finished : {A : Type 0} → ℕ → Result (Known A) Refusal → Result Posting Refusal
finished n (Err r) = Err r
finished n (Ok k) = posting_unless (first_refusal k.made.constraints) n k.made

-- the posting of a goal, where n variables were made
abbrev pub posting_of : ℕ → Goal → Result Posting Refusal
posting_of n g = finished n (read_goal g (nothing_made n))

-- the posting of a term in a state, as which its value counts
abbrev pub posting_in : State → Tree → Result Posting Refusal
posting_in s t = posting_of (next s) (goal_of (value (bindings s) t))

-- what a refusal raises
abbrev pub raised_by : State → Refusal → Tree
raised_by s (not_a_constraint t) = exception_with (codes "not_a_constraint") t s
raised_by s too_many_terms = atom (codes "constraint_too_large")
raised_by s wide_coefficient = atom (codes "constraint_too_large")
